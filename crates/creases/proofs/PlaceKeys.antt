-- Places as keys: their order is total and exact, a segment has one, and segments at one place overlap.
use Rattle.std.proofs.Common.{◌≡◌, ◌≢◌, refl, sym, ap, subst, ◌∙◌, ◌⊎◌, inl, inr, true, false}
use Rattle.std.specs.declared.cmp.Ordering.{Ordering}
use Rattle.std.specs.declared.cmp.Ordering.TheVariants as o
use Rattle.std.specs.Ordering.{is_eq, is_gt, is_lt, ordering_then, ordering_reverse}
use Rattle.std.specs.BTreeMap.{is_at}
use Rattle.std.specs.Cmp.{IsTotalOrder}
use Rattle.std.proofs.lemmas.Bool.{true≢false}
use Rattle.std.proofs.lemmas.Cmp.{on_total, then_total, tied_itself}
use Rattle.exact.proofs.Order.{first_equal}
use Rattle.exact.specs.Plane.{ExactPoint, ExactSegment, IsSegment, Before, Overlap}
use Rattle.plane.specs.Order.{point_cmp}
use Rattle.plane.specs.Support.{ExactLine, line_cmp}
use Rattle.plane.proofs.callers.Orders.{point_total, point_exact}
use Rattle.plane.proofs.callers.Supports.{line_total, line_exact, one_line_only}
use Rattle.creases.proofs.callers.Overlaps.{overlap_within}
use Rattle.creases.specs.Places.{IsPlaceOf, place_cmp}
use Rattle.creases.specs.declared.place.Place.{Place}

pub tie : (l m : ExactLine) → l ≡ m → line_cmp l m ≡ o.Equal
tie l m e = subst (λ x. line_cmp l x ≡ o.Equal) e (tied_itself line_total l)

pub line_or_not : (l m : ExactLine) → (l ≡ m) ⊎ (l ≢ m)
line_or_not l m = by (line_cmp l m) refl
  where
    by : (r : Ordering) → line_cmp l m ≡ r → (l ≡ m) ⊎ (l ≢ m)
    by o.Less e = inr (λ h. (let t = tie l m h in cc))
    by o.Equal e = inl (line_exact l m e)
    by o.Greater e = inr (λ h. (let t = tie l m h in cc))

pub place_total : IsTotalOrder place_cmp
place_total = then_total (on_total (λ (a : Place). a.line) line_total) (on_total (λ (a : Place). a.from) point_total)

same_place : (a b : Place) → a.line ≡ b.line → a.from ≡ b.from → a ≡ b
same_place a b p q = λ i. record { line = p i; from = q i }

pub place_exact : (a b : Place) → place_cmp a b ≡ o.Equal → a ≡ b
place_exact a b e = (let f = first_equal (line_cmp a.line b.line) (point_cmp a.from b.from) e in same_place a b (line_exact a.line b.line f.0) (point_exact a.from b.from f.1))

pub tied_places : (a b : Place) → a ≡ b → place_cmp a b ≡ o.Equal
tied_places a b e = subst (λ x. place_cmp a x ≡ o.Equal) e (tied_itself place_total a)

-- a place is another one's key, or it is not
pub at_or_not : (a b : Place) → ((is_at (place_cmp a) b ≡ true) × (a ≡ b)) ⊎ ((is_at (place_cmp a) b ≡ false) × (a ≢ b))
at_or_not a b = by (place_cmp a b) refl
  where
    by : (r : Ordering) → place_cmp a b ≡ r → ((is_at (place_cmp a) b ≡ true) × (a ≡ b)) ⊎ ((is_at (place_cmp a) b ≡ false) × (a ≢ b))
    by o.Less e = inr (ap is_eq e, λ h. (let t = tied_places a b h in cc))
    by o.Equal e = inl (ap is_eq e, place_exact a b e)
    by o.Greater e = inr (ap is_eq e, λ h. (let t = tied_places a b h in cc))

-- a segment has one place
pub one_place : (s : ExactSegment) (a b : Place) → IsSegment s → IsPlaceOf s a → IsPlaceOf s b → a ≡ b
one_place s a b h k l = same_place a b (one_line_only s a.line b.line h k.line l.line) (k.from ∙ sym l.from)

-- segments at one place overlap
pub overlap_at : (s t : ExactSegment) (a : Place) → IsSegment s → IsSegment t → IsPlaceOf s a → IsPlaceOf t a → Overlap s t
overlap_at s t a h k l m =
    let same : s.p ≡ t.p = sym l.from ∙ m.from in
    overlap_within s t a.line h k l.line m.line (subst (λ (x : ExactPoint). Before x t.q) (sym same) k.0) (subst (λ (x : ExactPoint). Before x s.q) same h.0)

pub then_less : (r s : Ordering) → ordering_then r s ≡ o.Less → (r ≡ o.Less) ⊎ (r ≡ o.Equal)
then_less o.Less s e = inl refl
then_less o.Equal s e = inr refl
then_less o.Greater s e = cc

-- a place is from another one on, or before it
pub from_or_before : (a b : Place) → (is_gt (place_cmp a b) ≡ false) ⊎ (place_cmp b a ≡ o.Less)
from_or_before a b = by (place_cmp a b) refl
  where
    by : (r : Ordering) → place_cmp a b ≡ r → (is_gt (place_cmp a b) ≡ false) ⊎ (place_cmp b a ≡ o.Less)
    by o.Less e = inl (ap is_gt e)
    by o.Equal e = inl (ap is_gt e)
    by o.Greater e = inr (place_total.antisymm b a ∙ ap ordering_reverse e)

-- but not both
pub not_from_before : (a b : Place) → is_gt (place_cmp a b) ≡ false → place_cmp b a ≡ o.Less → ⊥
not_from_before a b n l = (let e = ap is_gt (place_total.antisymm a b ∙ ap ordering_reverse l) in let f = sym e ∙ n in true≢false f)

-- a place that is not after another one is that one, or before it
pub one_or_before : (a b : Place) → is_lt (place_cmp b a) ≡ false → (a ≡ b) ⊎ (place_cmp a b ≡ o.Less)
one_or_before a b n = by (place_cmp b a) refl
  where
    by : (r : Ordering) → place_cmp b a ≡ r → (a ≡ b) ⊎ (place_cmp a b ≡ o.Less)
    by o.Less e = absurd (true≢false (sym (ap is_lt e) ∙ n))
    by o.Equal e = inl (sym (place_exact b a e))
    by o.Greater e = inr (place_total.antisymm a b ∙ ap ordering_reverse e)

-- between two places of a line there are only places of it
pub line_between : (a b c : Place) → a.line ≡ c.line → is_gt (place_cmp a b) ≡ false → place_cmp b c ≡ o.Less → b.line ≡ c.line
line_between a b c e from before = elim (then_less (line_cmp b.line c.line) (point_cmp b.from c.from) before) [
  | inr tied ↦ line_exact b.line c.line tied
  | inl less ↦ absurd (not_from_before a b from (ap (λ r. ordering_then r (point_cmp b.from a.from)) (subst (λ (l : ExactLine). line_cmp b.line l ≡ o.Less) (sym e) less)))
]

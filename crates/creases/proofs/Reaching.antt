-- Which creases overlap a segment, by their places: those of its line that begin before it ends, and end after it begins.
use Rattle.std.proofs.Common.{◌≡◌, sym, ap, subst, ◌∙◌, inl, inr, false}
use Rattle.std.specs.declared.cmp.Ordering.{Ordering}
use Rattle.std.specs.declared.cmp.Ordering.TheVariants as o
use Rattle.std.specs.Ordering.{is_gt, ordering_then}
use Rattle.exact.specs.Plane.{ExactPoint, ExactSegment, Before, Overlap, IsPointCanonical}
use Rattle.geometry.proofs.PointOrder.{before_trans}
use Rattle.plane.specs.Order.{point_cmp}
use Rattle.plane.specs.Segments.{IsHeld}
use Rattle.plane.specs.Support.{ExactLine, IsSupportOf, line_cmp}
use Rattle.plane.proofs.callers.Orders.{point_less}
use Rattle.plane.proofs.callers.Supports.{other_support, one_line_only}
use Rattle.creases.specs.Places.{IsPlaceOf, IsEndOf, place_cmp}
use Rattle.creases.specs.declared.place.Place.{Place}
use Rattle.creases.proofs.PlaceKeys.{tie, line_or_not, line_between, not_from_before}
use Rattle.creases.proofs.callers.Overlaps.{overlap_within, overlap_itself, passes, not_after_before}

second_less : (r s : Ordering) → r ≡ o.Equal → ordering_then r s ≡ o.Less → s ≡ o.Less
second_less r s e h = sym (ap (λ x. ordering_then x s) e) ∙ h

pub point_before : (p q : ExactPoint) (a b : Place) → a.from ≡ p → b.from ≡ q → IsPointCanonical p → IsPointCanonical q → a.line ≡ b.line → place_cmp a b ≡ o.Less → Before p q
point_before p q a b e f c d l h =
    (point_less p q c d).0 (ap (λ x. point_cmp x q) (sym e) ∙ ap (λ x. point_cmp a.from x) (sym f) ∙ second_less (line_cmp a.line b.line) (point_cmp a.from b.from) (tie a.line b.line l) h)

-- on one line, from a place on
not_before : (p q : ExactPoint) (a b : Place) → a.from ≡ p → b.from ≡ q → IsPointCanonical p → IsPointCanonical q → a.line ≡ b.line → is_gt (place_cmp a b) ≡ false → ¬ Before q p
not_before p q a b e f c d l n h = not_from_before a b n (
    ap (λ x. ordering_then x (point_cmp b.from a.from)) (tie b.line a.line (sym l))
    ∙ ap (λ x. point_cmp x a.from) f ∙ ap (λ x. point_cmp q x) e ∙ (point_less q p d c).1 h)

-- on one line and before its end, a crease overlaps a segment exactly where the segment begins before the crease ends
pub reached_within : (t s : ExactSegment) (a b : Place) → IsHeld t → IsHeld s → IsPlaceOf t a → IsEndOf s b → place_cmp a b ≡ o.Less → a.line ≡ b.line → Before s.p t.q → Overlap t s
reached_within t s a b k h p e l same r =
    overlap_within t s b.line k.segment h.segment (subst (λ (x : ExactLine). IsSupportOf t x) same p.line) e.line (point_before t.p s.q a b p.from e.at k.from h.to same l) r

pub one_line : (t s : ExactSegment) (a b : Place) → IsHeld t → IsHeld s → IsPlaceOf t a → IsEndOf s b → Overlap t s → a.line ≡ b.line
one_line t s a b k h p e v = elim (line_or_not a.line b.line) [ inl same ↦ same | inr n ↦ absurd (other_support t s a.line b.line k.segment h.segment p.line e.line n v) ]

-- what overlaps a segment has its place before the segment's end
pub placed_before : (t s : ExactSegment) (a b : Place) → IsHeld t → IsHeld s → IsPlaceOf t a → IsEndOf s b → Overlap t s → place_cmp a b ≡ o.Less
placed_before t s a b k h p e v =
    let same = one_line t s a b k h p e v in
    ap (λ x. ordering_then x (point_cmp a.from b.from)) (tie a.line b.line same)
    ∙ ap (λ x. point_cmp x b.from) p.from ∙ ap (λ x. point_cmp t.p x) e.at ∙ (point_less t.p s.q k.from h.to).1 (passes t s v).1

-- a segment begins before it ends
pub begins_before : (s : ExactSegment) (a b : Place) → IsHeld s → IsPlaceOf s a → IsEndOf s b → place_cmp a b ≡ o.Less
begins_before s a b h p e = placed_before s s a b h h p e (overlap_itself s h.segment)

-- what has its place from the segment's own on, and before its end, overlaps the segment
pub overlap_from : (t s : ExactSegment) (a at e : Place) → IsHeld t → IsHeld s → IsPlaceOf t a → IsPlaceOf s at → IsEndOf s e → is_gt (place_cmp at a) ≡ false → place_cmp a e ≡ o.Less → Overlap t s
overlap_from t s a at e k h p o z from before =
    let here : at.line ≡ e.line = one_line_only s at.line e.line h.segment o.line z.line in
    let same : a.line ≡ e.line = line_between at a e here from before in
    reached_within t s a e k h p z before same (not_after_before s.p t.p t.q (not_before s.p t.p at a o.from p.from h.from k.from (here ∙ sym same) from) k.segment.0)

-- a crease that begins before another one, which begins before a segment: where it overlaps the segment, it overlaps the other
pub overlap_between : (g f s : ExactSegment) (a b at e : Place) → IsHeld g → IsHeld f → IsHeld s → IsPlaceOf g a → IsPlaceOf f b → IsPlaceOf s at → IsEndOf s e → place_cmp a b ≡ o.Less → place_cmp b at ≡ o.Less → Overlap g s → Overlap g f
overlap_between g f s a b at e gk fk sk pa pb o z ab bat v =
    let here : at.line ≡ e.line = one_line_only s at.line e.line sk.segment o.line z.line in
    let first : a.line ≡ at.line = one_line g s a e gk sk pa z v ∙ sym here in
    let second : b.line ≡ at.line = line_between a b at first (ap is_gt ab) bat in
    let same : a.line ≡ b.line = first ∙ sym second in
    let begins : Before g.p f.p = point_before g.p f.p a b pa.from pb.from gk.from fk.from same ab in
    let begun : Before f.p s.p = point_before f.p s.p b at pb.from o.from fk.from sk.from second bat in
    overlap_within g f b.line gk.segment fk.segment (subst (λ (x : ExactLine). IsSupportOf g x) same pa.line) pb.line
    (before_trans g.p f.p f.q begins fk.segment.0) (before_trans f.p s.p g.q begun (passes g s v).0)

-- where a crease does not overlap a segment, none placed before it does
pub none_before : (g f s : ExactSegment) (a b e : Place) → IsHeld g → IsHeld f → IsHeld s → IsPlaceOf g a → IsPlaceOf f b → IsEndOf s e → place_cmp a b ≡ o.Less → place_cmp b e ≡ o.Less → ¬ Overlap g f → ¬ Overlap f s → ¬ Overlap g s
none_before g f s a b e gk fk sk pa pb pe ab be apart clear v =
    let same : a.line ≡ e.line = one_line g s a e gk sk pa pe v in
    let there : b.line ≡ e.line = line_between a b e same (ap is_gt ab) be in
    let here : a.line ≡ b.line = same ∙ sym there in
    let first : Before g.p f.p = point_before g.p f.p a b pa.from pb.from gk.from fk.from here ab in
    let after : ¬ Before s.p f.q = λ r. clear (reached_within f s b e fk sk pb pe be there r) in
    let last : Before f.q g.q = not_after_before f.q s.p g.q after (passes g s v).0 in
    apart (overlap_within g f b.line gk.segment fk.segment (subst (λ (x : ExactLine). IsSupportOf g x) here pa.line) pb.line
    (before_trans g.p f.p f.q first fk.segment.0) (before_trans f.p f.q g.q fk.segment.0 last))

-- Which creases an ascending list has, and that they settle the list.
use Rattle.std.proofs.Common.{◌≡◌, ◌≢◌, true, suc, ◌<◌, List, [], ◌∷◌, ◌++◌, length, get_or, refl, sym, ap, subst, ◌∙◌, ◌⊎◌, inl, inr, arith, length-append}
use Rattle.std.specs.Prelude.{All, AllPairs, Contains}
use Rattle.std.specs.declared.cmp.Ordering.{Ordering}
use Rattle.std.specs.declared.cmp.Ordering.TheVariants as o
use Rattle.std.specs.Ordering.{ordering_reverse}
use Rattle.std.proofs.lemmas.Bool.{cases_order}
use Rattle.std.proofs.lemmas.Cmp.{tied_itself}
use Rattle.std.proofs.lemmas.List.{get_or_append_left, get_or_push, get_or_default}
use Rattle.std.proofs.lemmas.List.Elements.{Contains-append_cases, Contains-push_cases, Contains-get_or}
use denote.Enum.Bare.{sameb}
use Rattle.exact.specs.Plane.{ExactSegment, SegmentBefore}
use Rattle.geometry.proofs.PointOrder.{before_not_itself, before_trans, same_before, before_same, same_trans, same_back}
use Rattle.plane.specs.Order.{segment_cmp}
use Rattle.plane.specs.Segments.{HasCanonicalEnds}
use Rattle.plane.proofs.callers.Orders.{segment_exact, segment_total, segment_less}
use Rattle.sheet.specs.Pattern.{ExactCrease}
use Rattle.sheet.specs.declared.colour.Colour.{Colour}
use Rattle.sheet.specs.declared.colour.Colour.TheVariants as colour
use Rattle.sheet.specs.contracts.Colour.{the_type}
use Rattle.creases.specs.Creases.{Ascends}
use Rattle.chains.proofs.callers.Elements.{tail_has, has_cases}

pub colour_or_not : (c d : Colour) → (c ≡ d) ⊎ (c ≢ d)
colour_or_not colour.M colour.M = inl refl
colour_or_not colour.M colour.V = inr (λ e. cc)
colour_or_not colour.M colour.A = inr (λ e. cc)
colour_or_not colour.V colour.M = inr (λ e. cc)
colour_or_not colour.V colour.V = inl refl
colour_or_not colour.V colour.A = inr (λ e. cc)
colour_or_not colour.A colour.M = inr (λ e. cc)
colour_or_not colour.A colour.V = inr (λ e. cc)
colour_or_not colour.A colour.A = inl refl

pub colour_itself : (c : Colour) → sameb the_type c c ≡ true
colour_itself colour.M = refl
colour_itself colour.V = refl
colour_itself colour.A = refl

pub tied_segments : (s t : ExactSegment) → s ≡ t → segment_cmp s t ≡ o.Equal
tied_segments s t e = subst (λ x. segment_cmp s x ≡ o.Equal) e (tied_itself segment_total s)

pub segment_or_not : (s t : ExactSegment) → (s ≡ t) ⊎ (s ≢ t)
segment_or_not s t = by (segment_cmp s t) refl
  where
    by : (r : Ordering) → segment_cmp s t ≡ r → (s ≡ t) ⊎ (s ≢ t)
    by o.Less e = inr (λ h. (let k = tied_segments s t h in cc))
    by o.Equal e = inl (segment_exact s t e)
    by o.Greater e = inr (λ h. (let k = tied_segments s t h in cc))

pub crease_same : (f g : ExactCrease) → f.seg ≡ g.seg → f.colour ≡ g.colour → f ≡ g
crease_same f g p q = λ i. record { seg = p i; colour = q i }

pub crease_or_not : (f g : ExactCrease) → (f ≡ g) ⊎ (f ≢ g)
crease_or_not f g = elim (segment_or_not f.seg g.seg) [
  | inr n ↦ inr (λ e. n (λ i. (e i).seg))
  | inl s ↦ elim (colour_or_not f.colour g.colour) [ inl c ↦ inl (crease_same f g s c) | inr n ↦ inr (λ e. n (λ i. (e i).colour)) ]
]

pub has_or_not : (xs : List ExactCrease) (f : ExactCrease) → Contains xs f ⊎ (¬ Contains xs f)
has_or_not [] f = inr (λ c. omega (arith, c.1))
has_or_not (x ∷ xs) f = elim (crease_or_not x f) [
  | inl e ↦ inl (0, omega arith, e)
  | inr n ↦ elim (has_or_not xs f) [ inl c ↦ inl (tail_has x f xs c) | inr m ↦ inr (λ c. elim (has_cases x f xs c) [ inl e ↦ n e | inr k ↦ m k ]) ]
]

pub segment_before_trans : (s t u : ExactSegment) → SegmentBefore s t → SegmentBefore t u → SegmentBefore s u
segment_before_trans s t u (inl a) (inl b) = inl (before_trans s.p t.p u.p a b)
segment_before_trans s t u (inl a) (inr b) = inl (before_same s.p t.p u.p b.0 a)
segment_before_trans s t u (inr a) (inl b) = inl (same_before t.p s.p u.p (same_back s.p t.p a.0) b)
segment_before_trans s t u (inr a) (inr b) = inr (same_trans s.p t.p u.p a.0 b.0, before_trans s.q t.q u.q a.1 b.1)

pub segment_not_itself : (s t : ExactSegment) → s ≡ t → SegmentBefore s t → ⊥
segment_not_itself s t e b = elim (subst (λ x. SegmentBefore x t) e b) [ inl p ↦ before_not_itself t.p p | inr k ↦ before_not_itself t.q k.1 ]

pub segment_not_back : (s t : ExactSegment) → SegmentBefore s t → SegmentBefore t s → ⊥
segment_not_back s t b c = segment_not_itself s s refl (segment_before_trans s t s b c)

-- two members of a list, by their places
pub pair_at : {X : Type 0} (R : X → X → Type 0) (xs : List X) (f g : X) → AllPairs R xs → (a : Contains xs f) (b : Contains xs g) → a.0 < b.0 → R f g
pair_at R xs f g h a b l = subst (λ x. R x g) a.2 (subst (R (get_or xs a.0 f)) (get_or_default xs b.0 f g b.1 ∙ b.2) (h a.0 b.0 f l b.1))

pub before_at : (xs : List ExactCrease) (f g : ExactCrease) → Ascends xs → (a : Contains xs f) (b : Contains xs g) → a.0 < b.0 → SegmentBefore f.seg g.seg
before_at = pair_at (λ (x : ExactCrease) (y : ExactCrease). SegmentBefore x.seg y.seg)

-- an ascending list has at most one crease on a segment
pub one_on_segment : (xs : List ExactCrease) (f g : ExactCrease) → Ascends xs → Contains xs f → Contains xs g → f.seg ≡ g.seg → f ≡ g
one_on_segment xs f g h a b e = elim (cases_order a.0 b.0) [
  | inl k ↦ sym a.2 ∙ get_or_default xs a.0 f g a.1 ∙ (λ i. get_or xs (k i) g) ∙ b.2
  | inr k ↦ elim k [
    | inl l ↦ absurd (segment_not_itself f.seg g.seg e (before_at xs f g h a b l))
    | inr l ↦ absurd (segment_not_itself g.seg f.seg (sym e) (before_at xs g f h b a l))
  ]
]

-- the first of an ascending list is before all others
pub first_before : (x f : ExactCrease) (xs : List ExactCrease) → Ascends (x ∷ xs) → Contains xs f → SegmentBefore x.seg f.seg
first_before x f xs h c = before_at (x ∷ xs) x f h (0, omega arith, refl) (suc c.0, omega (arith, c.1), c.2) (omega arith)

pub later_ascend : (x : ExactCrease) (xs : List ExactCrease) → Ascends (x ∷ xs) → Ascends xs
later_ascend x xs h = λ i j d l m. h (suc i) (suc j) d (omega (arith, l)) (omega (arith, m))

-- all are before the last of an ascending list
pub before_last : (xs : List ExactCrease) (f g : ExactCrease) → Ascends (xs ++ f ∷ []) → Contains xs g → SegmentBefore g.seg f.seg
before_last xs f g h c =
    before_at (xs ++ f ∷ []) g f h (c.0, omega (arith, c.1, length-append xs (f ∷ [])), get_or_append_left xs (f ∷ []) g c.0 c.1 ∙ c.2) (length xs, omega (arith, length-append xs (f ∷ [])), get_or_push xs f f (length xs) refl) c.1

-- ascending lists with the same creases are one list
pub same_list : (xs ys : List ExactCrease) → Ascends xs → Ascends ys → ((f : ExactCrease) → Contains xs f → Contains ys f) → ((f : ExactCrease) → Contains ys f → Contains xs f) → xs ≡ ys
same_list [] [] h k there back = refl
same_list [] (y ∷ ys) h k there back = absurd (let c = back y (0, omega arith, refl) in omega (arith, c.1))
same_list (x ∷ xs) [] h k there back = absurd (let c = there x (0, omega arith, refl) in omega (arith, c.1))
same_list (x ∷ xs) (y ∷ ys) h k there back = (let e = firsts in let t = same_list xs ys (later_ascend x xs h) (later_ascend y ys k) (forth e) (from e) in λ i. e i ∷ t i)
  where
    firsts : x ≡ y
    firsts = elim (has_cases y x ys (there x (0, omega arith, refl))) [
      | inl e ↦ sym e
      | inr c ↦ elim (has_cases x y xs (back y (0, omega arith, refl))) [ inl e ↦ e | inr d ↦ absurd (segment_not_back x.seg y.seg (first_before x y xs h d) (first_before y x ys k c)) ]
    ]

    forth : x ≡ y → (f : ExactCrease) → Contains xs f → Contains ys f
    forth e f c = elim (has_cases y f ys (there f (tail_has x f xs c))) [ inl s ↦ absurd (segment_not_itself x.seg f.seg (λ i. ((e ∙ s) i).seg) (first_before x f xs h c)) | inr d ↦ d ]

    from : x ≡ y → (f : ExactCrease) → Contains ys f → Contains xs f
    from e f c = elim (has_cases x f xs (back f (tail_has y f ys c))) [ inl s ↦ absurd (segment_not_itself y.seg f.seg (λ i. ((sym e ∙ s) i).seg) (first_before y f ys k c)) | inr d ↦ d ]

-- what holds of each member holds of all
pub all_of : {X : Type 0} (P : X → Type 0) (xs : List X) → ((x : X) → Contains xs x → P x) → All P xs
all_of P xs h = λ i d l. h (get_or xs i d) (Contains-get_or xs i d l)

-- of two segments one is before the other, or they are one
pub segments_ordered : (s t : ExactSegment) → HasCanonicalEnds s → HasCanonicalEnds t → SegmentBefore s t ⊎ ((s ≡ t) ⊎ SegmentBefore t s)
segments_ordered s t c d = by (segment_cmp s t) refl
  where
    by : (r : Ordering) → segment_cmp s t ≡ r → SegmentBefore s t ⊎ ((s ≡ t) ⊎ SegmentBefore t s)
    by o.Less e = inl ((segment_less s t c d).0 e)
    by o.Equal e = inr (inl (segment_exact s t e))
    by o.Greater e = inr (inr ((segment_less t s d c).0 (segment_total.antisymm t s ∙ ap ordering_reverse e)))

-- what holds of different creases holds of the pairs of an ascending list
pub pairs_of : (R : ExactCrease → ExactCrease → Type 0) (xs : List ExactCrease) → Ascends xs → ((f g : ExactCrease) → Contains xs f → Contains xs g → f ≢ g → R f g) → AllPairs R xs
pairs_of R xs h r = λ i j d l m.
    let i_in : i < length xs = omega (arith, l, m) in
    r (get_or xs i d) (get_or xs j d) (Contains-get_or xs i d i_in) (Contains-get_or xs j d m) (λ e. segment_not_itself (get_or xs i d).seg (get_or xs j d).seg (ap (λ (x : ExactCrease). x.seg) e) (h i j d l m))

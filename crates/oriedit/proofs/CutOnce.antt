-- Where creases ascend, one pair of them is the first that is out of range, and vertices are one list.
use Rattle.std.proofs.Common.{◌≡◌, ℕ, ◌<◌, ◌≤◌, List, length, map, get_or, sym, ap, subst, ◌∙◌, ◌⊎◌, inl, inr, arith}
use Rattle.std.specs.Prelude.{Contains}
use Rattle.std.proofs.lemmas.Bool.{cases_order}
use Rattle.std.proofs.lemmas.List.Elements.{All-contains}
use Rattle.exact.specs.Plane.{ExactPoint, ExactSegment, Before, SegmentBefore, IsPointCanonical}
use Rattle.geometry.proofs.PointOrder.{before_not_back}
use Rattle.sheet.specs.Pattern.{ExactCrease, ExactPattern}
use Rattle.plane.proofs.callers.Orders.{point_unique}
use Rattle.chains.proofs.callers.Sorted.{same_lists}
use Rattle.creases.specs.Creases.{Ascends}
use Rattle.subdivide.specs.Subdivision.{IsVertex, AreVertices, Answer, CutOf, vertex_limit}
use Rattle.subdivide.proofs.callers.Range.{Stands, stands, some_crease}
use Rattle.subdivide.proofs.callers.OneAnswer.{vertices_within}

earlier : (pattern : ExactPattern) → Ascends pattern.creases → (s t : ExactSegment) (i j : ℕ)
    → Stands pattern i s → Stands pattern j t → i < j → SegmentBefore s t
earlier pattern h s t i j a b l =
    let f = some_crease s in
    let first = (get_or pattern.creases i f).seg in
    subst (λ x. SegmentBefore x t) (a.is f) (subst (SegmentBefore first) (b.is f) (h i j f l b.within))

abbrev IsCreased : ExactPattern → ExactSegment → Type 0
IsCreased pattern s = Contains (map (λ (f : ExactCrease). f.seg) pattern.creases) s

one_or_before : (pattern : ExactPattern) → Ascends pattern.creases → (s t : ExactSegment)
    → IsCreased pattern s → IsCreased pattern t → (s ≡ t) ⊎ (SegmentBefore s t ⊎ SegmentBefore t s)
one_or_before pattern h s t c d =
    let a = stands pattern s c in
    let b = stands pattern t d in
    let f = some_crease s in
    elim (cases_order a.0 b.0) [
      | inl e ↦ inl (sym (a.1.is f) ∙ ap (λ n. (get_or pattern.creases n f).seg) e ∙ b.1.is f)
      | inr n ↦ elim n [
        | inl l ↦ inr (inl (earlier pattern h s t a.0 b.0 a.1 b.1 l))
        | inr g ↦ inr (inr (earlier pattern h t s b.0 a.0 b.1 a.1 g))
      ]
    ]

-- one pair is the first
pub first_pair_one : (pattern : ExactPattern) → Ascends pattern.creases → (s t u v : ExactSegment)
    → CutOf pattern (Answer.CrossRange s t) → CutOf pattern (Answer.CrossRange u v) → (s ≡ u) × (t ≡ v)
first_pair_one pattern h s t u v a b = elim (one_or_before pattern h s u a.0.1 b.0.1) [
  | inl e ↦ elim (one_or_before pattern h t v a.0.2 b.0.2) [
    | inl f ↦ (e, f)
    | inr n ↦ elim n [
      | inl l ↦ absurd (b.1 s t a.0 (inr (e, l)))
      | inr g ↦ absurd (a.1 u v b.0 (inr (sym e, g)))
    ]
  ]
  | inr n ↦ elim n [ inl l ↦ absurd (b.1 s t a.0 (inl l)) | inr g ↦ absurd (a.1 u v b.0 (inl g)) ]
]

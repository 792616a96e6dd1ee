-- Cutting a pattern has one answer.
use Rattle.std.proofs.Common.{◌≡◌, ◌<◌, ◌≤◌, List, map, length, get_or, sym, ap, subst, refl, ◌∙◌, ◌⊎◌, inl, inr, arith}
use Rattle.std.specs.Prelude.{Contains, slice_get, Some}
use Rattle.std.proofs.lemmas.Bool.{cases_order}
use Rattle.std.proofs.lemmas.List.Elements.{All-contains}
use Rattle.exact.specs.Plane.{ExactPoint, ExactSegment, Before, SegmentBefore, IsPointCanonical}
use Rattle.geometry.proofs.PointOrder.{before_not_back}
use Rattle.sheet.specs.Pattern.{ExactCrease, ExactPattern, IsPattern}
use Rattle.plane.proofs.callers.Orders.{point_unique}
use Rattle.chains.proofs.callers.Sorted.{same_lists}
use Rattle.subdivide.specs.Subdivision.{IsVertex, IsEdge, OutOfRange, EdgePlaces, AreVertices, AreEdges, PlacesBefore, Answer, CutOf, vertex_limit}
use Rattle.subdivide.proofs.callers.Range.{stands, some_crease, earlier}

pub vertices_within : (pattern : ExactPattern) (vs ws : List ExactPoint) → AreVertices pattern vs → AreVertices pattern ws → (v : ExactPoint) → Contains vs v → Contains ws v
vertices_within pattern vs ws a b v c =
    let w = b.all v (All-contains (IsVertex pattern) vs v a.each c) in
    subst (Contains ws) (sym (point_unique v w.0 (All-contains IsPointCanonical vs v a.canonical c) (All-contains IsPointCanonical ws w.0 b.canonical w.1) w.2)) w.1

pub one_vertices : (pattern : ExactPattern) (vs ws : List ExactPoint) → AreVertices pattern vs → AreVertices pattern ws → vs ≡ ws
one_vertices pattern vs ws a b = same_lists Before before_not_back vs ws a.ordered b.ordered (vertices_within pattern vs ws a b) (vertices_within pattern ws vs b a)

places_not_back : (e f : EdgePlaces) → PlacesBefore e f → PlacesBefore f e → ⊥
places_not_back e f p q = elim p [
  | inl a ↦ elim q [ inl b ↦ omega (arith, a, b) | inr b ↦ omega (arith, a, b.0) ]
  | inr a ↦ elim q [ inl b ↦ omega (arith, a.0, b) | inr b ↦ omega (arith, a.1, b.1) ]
]

abbrev EdgeIn : ExactPattern → List ExactPoint → EdgePlaces → Type 0
EdgeIn pattern vs e = (u v : ExactPoint) × (slice_get vs e.from ≡ Some u) × (slice_get vs e.to ≡ Some v) × IsEdge pattern u v e.kind

edges_within : (pattern : ExactPattern) (vs : List ExactPoint) (es fs : List EdgePlaces) → AreEdges pattern vs es → AreEdges pattern vs fs → (e : EdgePlaces) → Contains es e → Contains fs e
edges_within pattern vs es fs a b e c = let r = All-contains (EdgeIn pattern vs) es e a.each c in b.all e.from e.to r.0 r.1 e.kind r.2 r.3 r.4

one_edges : (pattern : ExactPattern) (vs : List ExactPoint) (es fs : List EdgePlaces) → AreEdges pattern vs es → AreEdges pattern vs fs → es ≡ fs
one_edges pattern vs es fs a b = same_lists PlacesBefore places_not_back es fs a.ordered b.ordered (edges_within pattern vs es fs a b) (edges_within pattern vs fs es b a)

abbrev IsCreased : ExactPattern → ExactSegment → Type 0
IsCreased pattern s = Contains (map (λ (f : ExactCrease). f.seg) pattern.creases) s

order_cases : (pattern : ExactPattern) → IsPattern pattern → (s u : ExactSegment) → IsCreased pattern s → IsCreased pattern u → (s ≡ u) ⊎ (SegmentBefore s u ⊎ SegmentBefore u s)
order_cases pattern p s u c d = (let a = stands pattern s c in let b = stands pattern u d in
    elim (cases_order a.0 b.0) [
      | inl e ↦ inl (sym (a.1.is (some_crease s)) ∙ ap (λ n. (get_or pattern.creases n (some_crease s)).seg) e ∙ b.1.is (some_crease s))
      | inr k ↦ elim k [ inl l ↦ inr (inl (earlier pattern p s u a.0 b.0 a.1 b.1 l)) | inr g ↦ inr (inr (earlier pattern p u s b.0 a.0 b.1 a.1 g)) ]
    ])

-- no pair that is out of range goes before this one
abbrev IsLeast : ExactPattern → ExactSegment → ExactSegment → Type 0
IsLeast pattern s t = (u v : ExactSegment) → OutOfRange pattern u v → ¬ (SegmentBefore u s ⊎ ((u ≡ s) × SegmentBefore v t))

one_pair : (pattern : ExactPattern) → IsPattern pattern → (s t u v : ExactSegment) → OutOfRange pattern s t → IsLeast pattern s t → OutOfRange pattern u v → IsLeast pattern u v → (s ≡ u) × (t ≡ v)
one_pair pattern p s t u v o l m n = elim (order_cases pattern p s u o.1 m.1) [
  | inl e ↦ elim (order_cases pattern p t v o.2 m.2) [
    | inl f ↦ (e, f)
    | inr k ↦ elim k [ inl a ↦ absurd (n s t o (inr (e, a))) | inr b ↦ absurd (l u v m (inr (sym e, b))) ]
  ]
  | inr k ↦ elim k [ inl a ↦ absurd (n s t o (inl a)) | inr b ↦ absurd (l u v m (inl b)) ]
]

pub too_many : (pattern : ExactPattern) (vs ws : List ExactPoint) → AreVertices pattern vs → AreVertices pattern ws → vertex_limit < length vs → length ws ≤ vertex_limit → ⊥
too_many pattern vs ws a b m f = omega (arith, m, f, ap length (one_vertices pattern vs ws a b))

pub one_answer : (pattern : ExactPattern) (x y : Answer) → IsPattern pattern → CutOf pattern x → CutOf pattern y → x ≡ y
one_answer pattern (Answer.CrossRange s t) (Answer.CrossRange u v) p a b =
    let e = one_pair pattern p s t u v a.0 a.1 b.0 b.1 in ap (λ z. Answer.CrossRange z t) e.0 ∙ ap (Answer.CrossRange u) e.1
one_answer pattern (Answer.CrossRange s t) Answer.TooManyVertices p a b = absurd (b.0 s t a.0)
one_answer pattern (Answer.CrossRange s t) (Answer.Cut vs es) p a b = absurd (b.0 s t a.0)
one_answer pattern Answer.TooManyVertices (Answer.CrossRange u v) p a b = absurd (a.0 u v b.0)
one_answer pattern Answer.TooManyVertices Answer.TooManyVertices p a b = refl
one_answer pattern Answer.TooManyVertices (Answer.Cut vs es) p a b = absurd (too_many pattern a.1.0 vs a.1.1 b.1 a.1.2 b.2)
one_answer pattern (Answer.Cut vs es) (Answer.CrossRange u v) p a b = absurd (a.0 u v b.0)
one_answer pattern (Answer.Cut vs es) Answer.TooManyVertices p a b = absurd (too_many pattern b.1.0 vs b.1.1 a.1 b.1.2 a.2)
one_answer pattern (Answer.Cut vs es) (Answer.Cut ws fs) p a b =
    let e = one_vertices pattern vs ws a.1 b.1 in
    let f = one_edges pattern vs es fs a.3 (subst (λ z. AreEdges pattern z fs) (sym e) b.3) in
    ap (λ z. Answer.Cut z es) e ∙ ap (Answer.Cut ws) f

-- What is known of every cut pattern.
use Rattle.std.proofs.Common.{◌≡◌, ℕ, ◌<◌, List, length, get_or, sym, subst, inl, inr, ap, ◌∙◌}
use Rattle.std.specs.Prelude.{AllPairs, slice_get, Some}
use Rattle.std.proofs.lemmas.Bool.{cases_order}
use Rattle.std.proofs.lemmas.List.Elements.{All-weaker}
use Rattle.std.proofs.lemmas.Option.{slice_get_within, get_or_from_slice_get}
use Rattle.exact.specs.Plane.{ExactPoint, SamePoint, Before}
use Rattle.sheet.specs.Pattern.{ExactPattern}
use Rattle.geometry.proofs.PointOrder.{before_not_back, before_not_same, same_itself}
use Rattle.subdivide.specs.Subdivision.{AreVertices, AreEdges, EdgePlaces, IsEdge, IsSubdivision}
use Rattle.subdivide.proofs.callers.Gets.{some_is}

-- points in order stand at places in order
pub places_rise : (vs : List ExactPoint) → AllPairs Before vs → (u v : ExactPoint) (i j : ℕ) → slice_get vs i ≡ Some u → slice_get vs j ≡ Some v → Before u v → i < j
places_rise vs up u v i j e f b = elim (cases_order i j) [
  | inl q ↦ absurd (before_not_same u v b (subst (SamePoint u) (some_is (sym e ∙ ap (slice_get vs) q ∙ f)) (same_itself u)))
  | inr k ↦ elim k [
    | inl l ↦ l
    | inr g ↦ absurd (before_not_back u v b (subst (λ z. Before z u) (get_or_from_slice_get vs j v u f) (subst (λ z. Before (get_or vs j u) z) (get_or_from_slice_get vs i u u e) (up j i u g (slice_get_within vs i u e)))))
  ]
]

abbrev EdgeIn : ExactPattern → List ExactPoint → EdgePlaces → Type 0
EdgeIn pattern vs e = (u v : ExactPoint) × (slice_get vs e.from ≡ Some u) × (slice_get vs e.to ≡ Some v) × IsEdge pattern u v e.kind

pub known : (pattern : ExactPattern) (vs : List ExactPoint) (es : List EdgePlaces) → AreVertices pattern vs → AreEdges pattern vs es → IsSubdivision (record { vertices = vs; edges = es })
known pattern vs es a b = record {
  vertices = a.ordered;
  canonical = a.canonical;
  edges = b.ordered;
  rising = All-weaker (EdgeIn pattern vs) (λ e. e.from < e.to) (λ e h. places_rise vs a.ordered h.0 h.1 e.from e.to h.2 h.3 h.4.ordered) es b.each;
  within = All-weaker (EdgeIn pattern vs) (λ e. e.to < length vs) (λ e h. slice_get_within vs e.to h.1 h.3) es b.each;
}

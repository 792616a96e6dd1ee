-- The order of points and of segments: total, exact, and of the real values.
use Rattle.std.proofs.Common.{◌≡◌, sym, ap, ◌∙◌, inl, inr}
use Rattle.std.specs.Prelude.{◌↔◌}
use Rattle.std.specs.declared.cmp.Ordering.TheVariants as o
use Rattle.std.specs.Ordering.{ordering_then}
use Rattle.std.specs.Cmp.{IsTotalOrder}
use Rattle.std.proofs.lemmas.Cmp.{on_total, then_total}
use Rattle.exact.specs.Number.{ExactNumber}
use Rattle.exact.specs.Order.{num_cmp, real_cmp}
use Rattle.exact.specs.Plane.{ExactPoint, ExactSegment, SamePoint, Before, SegmentBefore, IsPointCanonical}
use Rattle.exact.proofs.Order.{num_total, num_exact, first_equal}
use Rattle.exact.proofs.Unique.{unique}
use Rattle.qroot2.proofs.callers.Signs.{values_decide}
use Rattle.geometry.proofs.PointOrder.{point_real_cmp, before_cmp, same_cmp, first_less}
use Rattle.plane.specs.Order.{point_cmp, segment_cmp}
use Rattle.plane.specs.Segments.{HasCanonicalEnds}

pub point_total : IsTotalOrder point_cmp
point_total = then_total (on_total (λ p. p.x) num_total) (on_total (λ p. p.y) num_total)

pub segment_total : IsTotalOrder segment_cmp
segment_total = then_total (on_total (λ s. s.p) point_total) (on_total (λ s. s.q) point_total)

-- points with the same coordinates are one
pub point_made : (x x' y y' : ExactNumber) → x ≡ x' → y ≡ y' → (let z : ExactPoint = record { x = x; y = y } in z) ≡ record { x = x'; y = y' }
point_made x x' y y' f g = cc

pub point_exact : (p q : ExactPoint) → point_cmp p q ≡ o.Equal → p ≡ q
point_exact p q e = (let f = first_equal (num_cmp p.x q.x) (num_cmp p.y q.y) e in point_made p.x q.x p.y q.y (num_exact p.x q.x f.0) (num_exact p.y q.y f.1))

pub segment_exact : (s t : ExactSegment) → segment_cmp s t ≡ o.Equal → s ≡ t
segment_exact s t e = (let f = first_equal (point_cmp s.p t.p) (point_cmp s.q t.q) e in made s.p t.p s.q t.q (point_exact s.p t.p f.0) (point_exact s.q t.q f.1))
  where
    made : (p p' q q' : ExactPoint) → p ≡ p' → q ≡ q' → (let z : ExactSegment = record { p = p; q = q } in z) ≡ record { p = p'; q = q' }
    made p p' q q' f g = cc

-- two canonical points that are one are equal
pub point_unique : (p q : ExactPoint) → IsPointCanonical p → IsPointCanonical q → SamePoint p q → p ≡ q
point_unique p q c d s = point_made p.x q.x p.y q.y (unique p.x q.x c.0 d.0 s.x) (unique p.y q.y c.1 d.1 s.y)

pub point_values : (p q : ExactPoint) → IsPointCanonical p → IsPointCanonical q → point_cmp p q ≡ point_real_cmp p q
point_values p q c d = ap (λ r. ordering_then r (num_cmp p.y q.y)) (values_decide p.x q.x c.0 d.0) ∙ ap (ordering_then (real_cmp p.x q.x)) (values_decide p.y q.y c.1 d.1)

-- the comparison of points that can be held
pub point_less : (p q : ExactPoint) → IsPointCanonical p → IsPointCanonical q → (point_cmp p q ≡ o.Less) ↔ Before p q
point_less p q c d = (let e = point_values p q c d in (λ h. (before_cmp p q).1 (sym e ∙ h), λ b. e ∙ (before_cmp p q).0 b))

pub point_equal : (p q : ExactPoint) → IsPointCanonical p → IsPointCanonical q → (point_cmp p q ≡ o.Equal) ↔ SamePoint p q
point_equal p q c d = (let e = point_values p q c d in (λ h. (same_cmp p q).1 (sym e ∙ h), λ s. e ∙ (same_cmp p q).0 s))

pub segment_less : (s t : ExactSegment) → HasCanonicalEnds s → HasCanonicalEnds t → (segment_cmp s t ≡ o.Less) ↔ SegmentBefore s t
segment_less s t c d = (
  λ h. elim (first_less (point_cmp s.p t.p) (point_cmp s.q t.q) h) [
    | inl l ↦ inl ((point_less s.p t.p c.0 d.0).0 l)
    | inr k ↦ inr ((point_equal s.p t.p c.0 d.0).0 k.0, (point_less s.q t.q c.1 d.1).0 k.1)
  ],
  λ h. elim h [
    | inl l ↦ ap (λ r. ordering_then r (point_cmp s.q t.q)) ((point_less s.p t.p c.0 d.0).1 l)
    | inr k ↦ ap (λ r. ordering_then r (point_cmp s.q t.q)) ((point_equal s.p t.p c.0 d.0).1 k.0) ∙ (point_less s.q t.q c.1 d.1).1 k.1
  ],
)

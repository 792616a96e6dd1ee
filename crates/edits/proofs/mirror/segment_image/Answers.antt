use Rattle.std.proofs.Common.{◌≡◌, ◌<◌, ℕ, arith, subst, sym, inl, inr}
use Rattle.exact.specs.Plane.{ExactPoint, ExactSegment, IsSegment, IsPointRepresentable}
use Rattle.plane.specs.Images.{IsImage}
use Rattle.plane.specs.Segments.{HasEnds}
use Rattle.plane.proofs.callers.MirroredSegments.{joined_ok}
use Rattle.plane.proofs.callers.MirroredVectors.{some_image}
use Rattle.edits.specs.Mirror.{IsEndImage, IsSegmentImage}
use Rattle.edits.proofs.mirror.segment_image.Goals as goal

small : (k n : ℕ) → n ≡ k → n < 16 → k < 16
small k n e h = omega (arith, e, h)

from_out : (k : ℕ) (a p : ExactPoint) (s : ExactSegment) → k < 16 → p ≡ s.p → ((v : ExactPoint) → IsImage a k p v → ¬ IsPointRepresentable v) → (v : ExactPoint) × IsEndImage a k s v × (¬ IsPointRepresentable v)
from_out k a p s h e n = (let v = some_image k a p h in (v.0, inl (subst (λ (z : ExactPoint). IsImage a k z v.0) e v.1), n v.0 v.1))

to_out : (k : ℕ) (a q : ExactPoint) (s : ExactSegment) → k < 16 → q ≡ s.q → ((v : ExactPoint) → IsImage a k q v → ¬ IsPointRepresentable v) → (v : ExactPoint) × IsEndImage a k s v × (¬ IsPointRepresentable v)
to_out k a q s h e n = (let v = some_image k a q h in (v.0, inr (subst (λ (z : ExactPoint). IsImage a k z v.0) e v.1), n v.0 v.1))

-- the segment between the images of both ends
image_between : (k : ℕ) (a v w p q : ExactPoint) (s u : ExactSegment) → p ≡ s.p → q ≡ s.q → IsImage a k p v → IsImage a k q w → IsSegment u × HasEnds u v w → IsSegmentImage a k s u
image_between k a v w p q s u e f i j h = (
  h.0,
  elim h.1 [
    | inl x ↦ inl (subst (λ (z : ExactPoint). IsImage a k s.p z) (sym x.0) from, subst (λ (z : ExactPoint). IsImage a k s.q z) (sym x.1) to)
    | inr x ↦ inr (subst (λ (z : ExactPoint). IsImage a k s.p z) (sym x.1) from, subst (λ (z : ExactPoint). IsImage a k s.q z) (sym x.0) to)
  ],
)
  where
    from : IsImage a k s.p v
    from = subst (λ (z : ExactPoint). IsImage a k z v) e i

    to : IsImage a k s.q w
    to = subst (λ (z : ExactPoint). IsImage a k z w) f j

pub returns-in_err-from-clause-none : goal.returns-in_err-from-clause-none
returns-in_err-from-clause-none c = rw c.from_residual.ensures
    (from_out c.args.dir c.args.at.now c.p.result c.args.seg.now (small c.args.dir c.number-number.result c.number-number.ensures.value c.number-number.ensures.small) c.p.ensures.value c.in_err-from.ensures.none)

pub returns-in_err-to-clause-none : goal.returns-in_err-to-clause-none
returns-in_err-to-clause-none c = rw c.from_residual-in_err-to.ensures
    (to_out c.args.dir c.args.at.now c.q.result c.args.seg.now (small c.args.dir c.number-number.result c.number-number.ensures.value c.number-number.ensures.small) c.q.ensures.value c.in_err-to.ensures.none)

pub unwrap-requires : goal.unwrap-requires
unwrap-requires c = joined_ok c.args.dir c.args.at.now c.in_ok-from.from c.in_ok-to.to c.p.result c.q.result c.args.seg.now c.new.result (small c.args.dir c.number-number.result c.number-number.ensures.value c.number-number.ensures.small) c.p.ensures.segment
    c.p.ensures.value c.q.ensures.value c.in_ok-from.ensures.some c.in_ok-to.ensures.some c.new.ensures.same_point.0 (λ e. (c.new.ensures.not_direction.0 e).1)

pub returns-clause-some : goal.returns-clause-some
returns-clause-some c = image_between c.args.dir c.args.at.now c.in_ok-from.from c.in_ok-to.to c.p.result c.q.result c.args.seg.now c.unwrap.result c.p.ensures.value c.q.ensures.value c.in_ok-from.ensures.some c.in_ok-to.ensures.some (rw c.unwrap.ensures at c.new.ensures.ok)

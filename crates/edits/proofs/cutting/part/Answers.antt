use Rattle.std.proofs.Common.{◌≡◌, sym, subst, inl, inr, refl}
use Rattle.std.specs.Prelude.{Result, Ok, Err, IfOk}
use Rattle.std.specs.Result.{result_ok}
use Rattle.exact.specs.Plane.{ExactPoint, ExactSegment, SamePoint, Before, IsSegment}
use Rattle.geometry.proofs.PointOrder.{before_not_back, before_not_same, same_itself}
use Rattle.plane.specs.Segments.{HasEnds}
use Rattle.plane.specs.declared.segment.SegBad.{SegBad}
use Rattle.plane.specs.declared.segment.SegBad.TheVariants as bad
use Rattle.edits.specs.Pieces.{IsFromTo}
use Rattle.edits.proofs.drawings.CutPieces.{segment}
use Rattle.edits.proofs.cutting.part.Goals as goal

-- the segment between two points, of which the first is before the second
in_order : (a b : ExactPoint) (s : ExactSegment) → Before a b → IsSegment s × HasEnds s a b → s ≡ segment a b
in_order a b s l h = elim h.1 [
  | inl e ↦ (λ i. segment (e.0 i) (e.1 i))
  | inr e ↦ absurd (before_not_back a b l (subst (λ x. Before x a) e.0 (subst (λ y. Before s.p y) e.1 h.0.0)))
]

found : (a b : ExactPoint) (r : Result ExactSegment SegBad) → Before a b → IsSegment (segment a b) → IfOk r (λ s. IsSegment s × HasEnds s a b) → ((r ≡ Err bad.SamePoint) → a ≡ b) → ((r ≡ Err bad.NotDirection) → (s : ExactSegment) → HasEnds s a b → ¬ IsSegment s) → IsFromTo a b (result_ok r)
found a b (Ok s) l k h same none = (l, in_order a b s l h)
found a b (Err bad.SamePoint) l k h same none = absurd (before_not_same a b l (subst (λ x. SamePoint a x) (same refl) (same_itself a)))
found a b (Err bad.NotDirection) l k h same none = absurd (none refl (segment a b) (inl (refl, refl)) k)

pub returns-then-is_before : goal.returns-then-is_before
returns-then-is_before c =
    let a = c.args.from in
    let b = c.args.to in
    let l : Before a b = c.is_before.ensures.0 c.if-is_before.true in
    subst (IsFromTo a b) (sym c.ok.ensures.value) (found a b c.new.result l (c.requires l) c.new.ensures.ok c.new.ensures.same_point.0 (λ e. (c.new.ensures.not_direction.0 e).1))

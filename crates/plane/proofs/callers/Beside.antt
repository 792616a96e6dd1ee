-- A segment beside a line, by the turns to its ends.
use Rattle.std.proofs.Common.{ℕ, inl, inr}
use Rattle.std.specs.Prelude.{◌↔◌}
use Rattle.exact.specs.Plane.{ExactPoint, ExactSegment, vector}
use Rattle.geometry.specs.Root.{minus}
use Rattle.geometry.specs.Gap.{cross}
use Rattle.geometry.specs.Meeting.{SameSide}
use Rattle.qroot2.specs.declared.sign.Sign.TheVariants.{Minus, Plus}
use Rattle.plane.specs.Sides.{IsBeside}
use Rattle.plane.proofs.callers.Turns.{side_cross, cross_side}

pub beside_turns : (p : ExactPoint) (k : ℕ) (s : ExactSegment) → IsBeside p k s ↔ SameSide (cross (vector k) p s.p) (cross (vector k) p s.q)
unfolding minus
beside_turns p k s = (
  λ h. elim h [
    | inl x ↦ inl (side_cross k p s.p Plus x.0, side_cross k p s.q Plus x.1)
    | inr x ↦ inr (side_cross k p s.p Minus x.0, side_cross k p s.q Minus x.1)
  ],
  λ h. elim h [
    | inl x ↦ inl (cross_side k p s.p Plus x.0, cross_side k p s.q Plus x.1)
    | inr x ↦ inr (cross_side k p s.p Minus x.0, cross_side k p s.q Minus x.1)
  ],
)

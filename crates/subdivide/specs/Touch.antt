-- What two lines have in common, and where it cuts them.
use Rattle.std.specs.Prelude.{◌≡◌, ◌≢◌, ℕ, ◌⊎◌}
use Rattle.exact.specs.Plane.{ExactPoint, ExactSegment, SamePoint, OnBoth, Cross, IsPointCanonical}
use Rattle.exact.specs.Plane.{IsPointRepresentable}
use Rattle.geometry.specs.Meeting.{Along}
use Rattle.plane.specs.Sides.{IsBeside}
use Rattle.qroot2.specs.declared.sign.Sign.{Sign}
use Rattle.subdivide.specs.Lines.{end_at}
use Rattle.subdivide.specs.declared.line.End.{End}
use Rattle.subdivide.specs.declared.line.End.TheVariants as end
use Rattle.subdivide.specs.declared.touch.Touch.{Touch}
use Rattle.subdivide.specs.declared.touch.Touch.TheVariants as touch

-- v is an end of s, by these numbers or others
abbrev pub IsEndOf : ExactPoint → ExactSegment → Type 0
IsEndOf v s = SamePoint v s.p ⊎ SamePoint v s.q

-- their one common point cannot be held
abbrev pub CrossesOut : ExactSegment → ExactSegment → Type 0
CrossesOut s t = (v : ExactPoint) × Cross s t v × (¬ IsPointRepresentable v)

-- what s and t have in common: at most ends of both; an end of t, where s is cut; an end of s, where t is cut;
-- a point where both are cut; or such a point that cannot be held
abbrev pub IsTouch : ExactSegment → ExactSegment → Touch → Type 0
IsTouch s t touch.Ends = (v : ExactPoint) → OnBoth v s t → IsEndOf v s × IsEndOf v t
IsTouch s t (touch.CutsFirst e) = Cross s t (end_at t e)
IsTouch s t (touch.CutsSecond e) = Cross s t (end_at s e)
IsTouch s t (touch.CutsBoth v) = Cross s t v × IsPointCanonical v
IsTouch s t touch.OutOfRange = CrossesOut s t

-- the sign at an end, of the signs at both
abbrev pub IsSignAt : Sign → Sign → End → Sign → Type 0
IsSignAt lesser greater end.Lesser s = lesser ≡ s
IsSignAt lesser greater end.Greater s = greater ≡ s

-- segments of different directions, neither with both ends on one side of the other
pub record AreCrossing (s t : ExactSegment) (k j : ℕ) : Type 0 where
  pub first : Along s k
  pub second : Along t j
  pub different : k ≢ j
  pub not_first : ¬ IsBeside t.p j s
  pub not_second : ¬ IsBeside s.p k t

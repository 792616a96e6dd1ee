-- The parts of a segment: outside another segment, and in common with it.
use Rattle.std.specs.Prelude.{◌↔◌}
use Rattle.exact.specs.Plane.{ExactPoint, ExactSegment, IsSegment, OnSeg, OnBoth, Overlap}

-- all points of u are on t
abbrev pub Covers : ExactSegment → ExactSegment → Type 0
Covers t u = (r : ExactPoint) → OnSeg r u → OnSeg r t

-- u is a segment on t, and has at most one point in common with s
pub record IsOutside (u t s : ExactSegment) : Type 0 where
  pub segment : IsSegment u
  pub within : Covers t u
  pub outside : ¬ Overlap u s

-- u is a largest part of t outside s: no other such segment has all points of u
pub record IsPart (u t s : ExactSegment) : Type 0 where
  pub part : IsOutside u t s
  pub largest : (w : ExactSegment) → IsOutside w t s → Covers w u → Covers u w

-- the points of u are those that t and s have in common
pub record IsCommonPart (u t s : ExactSegment) : Type 0 where
  pub segment : IsSegment u
  pub points : (r : ExactPoint) → OnBoth r t s ↔ OnSeg r u

-- The places of segments, as keys.
use Rattle.std.specs.Prelude.{◌≡◌}
use Rattle.std.specs.declared.cmp.Ordering.{Ordering}
use Rattle.std.specs.Ordering.{ordering_then}
use Rattle.exact.specs.Plane.{ExactSegment}
use Rattle.plane.specs.Order.{point_cmp}
use Rattle.plane.specs.Support.{IsSupportOf, line_cmp}
use Rattle.creases.specs.declared.place.Place.{Place}

-- the segment lies on the line of the place, and its lesser end is the place's point
pub record IsPlaceOf (s : ExactSegment) (place : Place) : Type 0 where
  pub line : IsSupportOf s place.line
  pub from : place.from ≡ s.p

-- the place on the line of a segment, at its greater end
pub record IsEndOf (s : ExactSegment) (place : Place) : Type 0 where
  pub line : IsSupportOf s place.line
  pub at : place.from ≡ s.q

-- the order of places as keys: by line, then by point
abbrev pub place_cmp : Place → Place → Ordering
place_cmp a b = ordering_then (line_cmp a.line b.line) (point_cmp a.from b.from)

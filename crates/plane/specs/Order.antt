-- The order of points and of segments as comparisons of their numbers, one after another.
use Rattle.std.specs.declared.cmp.Ordering.{Ordering}
use Rattle.std.specs.Ordering.{ordering_then}
use Rattle.exact.specs.Order.{num_cmp}
use Rattle.exact.specs.Plane.{ExactPoint, ExactSegment}

-- by x, then by y
abbrev pub point_cmp : ExactPoint → ExactPoint → Ordering
point_cmp p q = ordering_then (num_cmp p.x q.x) (num_cmp p.y q.y)

-- by the lesser end, then by the greater
abbrev pub segment_cmp : ExactSegment → ExactSegment → Ordering
segment_cmp s t = ordering_then (point_cmp s.p t.p) (point_cmp s.q t.q)

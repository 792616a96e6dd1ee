-- The line on which a segment lies, by its direction and how far it runs from the origin.
use Rattle.std.specs.Prelude.{ℕ, ◌<◌}
use Rattle.std.specs.declared.cmp.Ordering.{Ordering}
use Rattle.std.specs.Ordering.{nat_cmp, ordering_then}
use Rattle.exact.specs.Order.{triple_cmp}
use Rattle.exact.specs.Number.{ExactNumber, Same}
use Rattle.exact.specs.Plane.{ExactSegment, DirOf, IsZero, vector, turn, away}
use Rattle.qroot2.specs.Lowest.{IsInLowestTerms}

-- a direction, and the turn from its vector to each point of the line
pub record ExactLine : Type 0 where
  pub dir : ℕ
  pub offset : ExactNumber

-- the segment lies on the line
pub record IsSupportOf (s : ExactSegment) (l : ExactLine) : Type 0 where
  pub small : l.dir < 16
  pub dir : DirOf s.p s.q l.dir
  pub lowest : IsInLowestTerms l.offset
  pub offset : Same l.offset (turn (vector l.dir) s.p)

-- both ends of t are on the line through the ends of s
abbrev pub AreOnOneLine : ExactSegment → ExactSegment → Type 0
AreOnOneLine s t =
    IsZero (turn (away s.p s.q) (away s.p t.p)) × IsZero (turn (away s.p s.q) (away s.p t.q))

-- the order of lines as keys: by direction, then by the triple of the offset
abbrev pub line_cmp : ExactLine → ExactLine → Ordering
line_cmp l m = ordering_then (nat_cmp l.dir m.dir) (triple_cmp l.offset m.offset)

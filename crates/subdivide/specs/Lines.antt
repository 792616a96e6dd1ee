-- The lines of a pattern as they are swept, each with its direction and the marks of its ends.
use Rattle.std.specs.Prelude.{◌≡◌, ℕ, ◌%◌, ◌<◌, ◌++◌, ℤ, List, map, take, drop, slice_get, Some}
use Rattle.exact.specs.Number.{Less}
use Rattle.exact.specs.Plane.{ExactPoint, ExactSegment, Overlap}
use Rattle.geometry.specs.Meeting.{Along}
use Rattle.plane.specs.Segments.{HasCanonicalEnds}
use Rattle.sheet.specs.Sheet.{sides}
use Rattle.sheet.specs.Pattern.{ExactPattern, IsPattern}
use Rattle.forms.specs.Marks.{AreMarks, mark_in}
use Rattle.subdivide.specs.Subdivision.{Line, kind_of}
use Rattle.subdivide.specs.declared.edge.EdgeKind.TheVariants as kind
use Rattle.subdivide.specs.declared.line.End.{End}
use Rattle.subdivide.specs.declared.line.End.TheVariants as end
use Rattle.subdivide.specs.declared.line.MarkedLine.{MarkedLine}

abbrev pub as_line : MarkedLine → Line
as_line l = record { seg = l.seg; kind = l.kind }

-- an end of a segment
abbrev pub end_at : ExactSegment → End → ExactPoint
end_at s end.Lesser = s.p
end_at s end.Greater = s.q

-- the mark of an end of a line in a row
abbrev pub mark_at : MarkedLine → End → ℕ → ℤ
mark_at l end.Lesser row = mark_in l.lesser row
mark_at l end.Greater row = mark_in l.greater row

-- the row of its direction
abbrev pub own_row : MarkedLine → ℕ
own_row l = l.dir % 8

-- the row of direction 4, whose form is x from right to left
abbrev pub leftward : ℕ
leftward = 4

-- its direction, and its marks at a scale, are those of its segment, whose ends are in lowest terms
pub record IsMarkedBy (scale : ℕ) (l : MarkedLine) : Type 0 where
  pub along : Along l.seg l.dir
  pub held : HasCanonicalEnds l.seg
  pub lesser : AreMarks scale l.seg.p l.lesser
  pub greater : AreMarks scale l.seg.q l.greater

-- all lines are marked at one scale
pub record AreMarked (ls : List MarkedLine) : Type 0 where
  pub scale : ℕ
  pub each : (i : ℕ) (l : MarkedLine) → slice_get ls i ≡ Some l → IsMarkedBy scale l

-- the left, the lower and the upper side, the creases, and the right side
abbrev pub swept : ExactPattern → List Line
swept pattern =
    map (λ s. record { seg = s; kind = kind.B }) (take 3 (sides pattern.sheet))
    ++ map (λ f. record { seg = f.seg; kind = kind_of f.colour }) pattern.creases
    ++ map (λ s. record { seg = s; kind = kind.B }) (drop 3 (sides pattern.sheet))

-- no line begins left of one before it, and no two overlap
pub record AreSwept (ls : List MarkedLine) : Type 0 where
  pub marked : AreMarked ls
  pub ordered : (i j : ℕ) (l m : MarkedLine) → i < j → slice_get ls i ≡ Some l → slice_get ls j ≡ Some m
      → ¬ Less m.seg.p.x l.seg.p.x
  pub apart : (i j : ℕ) (l m : MarkedLine) → i < j → slice_get ls i ≡ Some l → slice_get ls j ≡ Some m
      → ¬ Overlap l.seg m.seg

-- the lines of a pattern, marked
pub record AreLinesOf (pattern : ExactPattern) (ls : List MarkedLine) : Type 0 where
  pub is : IsPattern pattern
  pub same : map as_line ls ≡ swept pattern
  pub marked : AreMarked ls

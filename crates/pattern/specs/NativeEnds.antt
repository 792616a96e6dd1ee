-- The ends on a line as those of a segment, in the order in which they stand there.
use Rattle.exact.specs.Plane.{ExactSegment}
use Rattle.pattern.specs.declared.native.line.Line.{Line}

abbrev pub ends_of : Line → ExactSegment
ends_of line = record { p = line.p; q = line.q }

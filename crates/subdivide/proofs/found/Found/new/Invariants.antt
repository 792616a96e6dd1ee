use Rattle.subdivide.specs.Found.{HoldEnds}
use Rattle.subdivide.proofs.found.Found.new.Given as goal

abbrev pub invariant-loop-line : goal.invariant-loop-line
invariant-loop-line l = HoldEnds l.lines l.line-index l.found

use Rattle.subdivide.specs.Found.{IsSweptUpTo}
use Rattle.subdivide.specs.Strips.{AreStanding}
use Rattle.subdivide.proofs.sweep.sweep.Given as goal

abbrev pub invariant-loop-line : goal.invariant-loop-line
invariant-loop-line l = AreStanding l.lines l.line l.strips × IsSweptUpTo l.lines l.line l.found

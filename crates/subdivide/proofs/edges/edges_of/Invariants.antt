use Rattle.subdivide.proofs.Stepped.{AreStepsTo}
use Rattle.subdivide.proofs.edges.edges_of.Given as goal

abbrev pub invariant-loop-i : goal.invariant-loop-i
invariant-loop-i l = AreStepsTo l.lines l.cuts l.i l.edges.items

use Rattle.subdivide.proofs.FanRays.{AreFirstRays}
use Rattle.subdivide.proofs.stars.Fan.star.Given as goal

abbrev pub invariant-loop-k : goal.invariant-loop-k
invariant-loop-k l = AreFirstRays l.self.marks l.k l.rays.items

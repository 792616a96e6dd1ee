use Rattle.subdivide.specs.Fans.{HoldRays}
use Rattle.subdivide.proofs.stars.fans_of.Given as goal

abbrev pub invariant-loop-edge : goal.invariant-loop-edge
invariant-loop-edge l = HoldRays l.cut l.edge-index l.fans.items

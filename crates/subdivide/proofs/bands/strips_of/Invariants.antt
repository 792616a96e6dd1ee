use Rattle.subdivide.specs.Strips.{HaveRows}
use Rattle.subdivide.proofs.bands.strips_of.Given as goal

abbrev pub invariant-loop-row : goal.invariant-loop-row
invariant-loop-row l = HaveRows l.row l.strips

use Rattle.std.proofs.Common.{subst, arith}
use Rattle.subdivide.specs.Strips.{HaveRows}
use Rattle.subdivide.proofs.Standing.{rows_stand}
use Rattle.subdivide.proofs.bands.strips_of.Goals as goal

pub returns : goal.returns
returns c = rows_stand c.args.lines.now c.loop-row.strips (subst (λ k. HaveRows k c.loop-row.strips) (omega arith) c.loop-row.invariant)

use Rattle.std.proofs.Common.{◌<◌}
use Rattle.subdivide.proofs.early.denominator_of.Given as goal

abbrev pub invariant-loop-line : goal.invariant-loop-line
invariant-loop-line l = 0 < l.d

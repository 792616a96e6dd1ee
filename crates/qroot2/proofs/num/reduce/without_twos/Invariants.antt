use Rattle.std.proofs.Common.{ℕ, ◌<◌}
use Rattle.qroot2.specs.Num.{Reduces}
use Rattle.qroot2.proofs.num.reduce.without_twos.Given as goal

abbrev pub invariant-loop-x : goal.invariant-loop-x
invariant-loop-x l = (0 < l.z) × ((x y z : ℕ) → Reduces l.x l.y l.z x y z → Reduces l.a l.b l.d x y z)

abbrev pub decreases-loop-x : goal.decreases-loop-x
decreases-loop-x l = l.z

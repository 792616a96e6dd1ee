use Rattle.std.proofs.Common.{◌≡◌, ◌≤◌, ◌+◌, ◌*◌, ◌-◌, ◌/◌}
use Rattle.judge.proofs.Sums.{sum_below}
use Rattle.judge.proofs.counting.angle_sum.Given as goal

abbrev pub invariant-loop-i : goal.invariant-loop-i
invariant-loop-i l = record {
  so_far : l.sum ≡ sum_below l.rest l.sectors l.i;
  small : l.sum ≤ 16 * ((l.i + 1 - l.rest) / 2);
}

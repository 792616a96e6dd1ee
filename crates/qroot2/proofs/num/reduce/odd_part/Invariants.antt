use Rattle.std.proofs.Common.{◌≡◌, ℕ, ◌<◌, ◌%◌}
use Rattle.std.specs.Int.{◌∣◌}
use Rattle.qroot2.proofs.num.reduce.odd_part.Given as goal

abbrev pub invariant-loop-z : goal.invariant-loop-z
invariant-loop-z l = (0 < l.z) × (l.z ∣ l.d) × ((n : ℕ) → n % 2 ≡ 1 → n ∣ l.d → n ∣ l.z)

abbrev pub decreases-loop-z : goal.decreases-loop-z
decreases-loop-z l = l.z

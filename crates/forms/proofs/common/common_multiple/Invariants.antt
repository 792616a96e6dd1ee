use Rattle.std.proofs.Common.{ℕ, ◌+◌, ◌-◌, ◌<◌, ◌≤◌}
use Rattle.std.specs.Int.{◌∣◌}
use Rattle.forms.specs.Common.{IsCommon}
use Rattle.forms.proofs.common.common_multiple.Given as goal

abbrev pub invariant-loop-multiple : goal.invariant-loop-multiple
invariant-loop-multiple l = (0 < l.multiple) × (l.d ∣ l.multiple) × ((n : ℕ) → IsCommon l.d l.point n → l.multiple ≤ n)

abbrev pub decreases-loop-multiple : goal.decreases-loop-multiple
decreases-loop-multiple l = 131072 + 1 - l.multiple

use Rattle.std.proofs.Common.{◌<◌, ℕ, length}
use Rattle.layers.specs.LayerOrder.{height}
use Rattle.layers.proofs.rules.all_stand.Given as goal

abbrev pub invariant-loop-i : goal.invariant-loop-i
invariant-loop-i l = (i : ℕ) → i < l.i → height l.order i < length l.order

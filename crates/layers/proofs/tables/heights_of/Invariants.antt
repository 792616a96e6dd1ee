use Rattle.std.proofs.Common.{◌≡◌, ◌<◌, ℕ, length, get_or}
use Rattle.layers.specs.LayerOrder.{height}
use Rattle.layers.proofs.tables.heights_of.Given as goal

abbrev pub invariant-loop-i : goal.invariant-loop-i
invariant-loop-i l = record { long : length l.heights.items ≡ l.i; each : (i : ℕ) → i < l.i → get_or l.heights.items i 0 ≡ height l.order i }

use Rattle.std.proofs.Common.{◌<◌, ℕ, length}
use Rattle.layers.specs.Sectors.{sector_at}
use Rattle.layers.specs.LayerOrder.{before, height, Agrees}
use Rattle.layers.proofs.rules.agrees_with_marks.Given as goal

abbrev pub invariant-loop-i : goal.invariant-loop-i
invariant-loop-i l = (i : ℕ) → i < l.i → Agrees (sector_at l.sectors i).mark (before (length l.sectors) i) i (height l.order)

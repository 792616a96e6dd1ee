use Rattle.std.proofs.Common.{◌<◌, ℕ}
use Rattle.layers.specs.Rows.{IsClear}
use Rattle.layers.proofs.rules.clears_all.Given as goal

abbrev pub invariant-loop-j : goal.invariant-loop-j
invariant-loop-j l = (j : ℕ) → j < l.j → IsClear l.sectors l.order l.i j

use Rattle.std.proofs.Common.{◌<◌, ℕ}
use Rattle.layers.specs.Rows.{IsNested}
use Rattle.layers.proofs.rules.nests_all.Given as goal

abbrev pub invariant-loop-j : goal.invariant-loop-j
invariant-loop-j l = (j : ℕ) → j < l.j → IsNested l.sectors l.order l.i j

use Rattle.std.proofs.Common.{◌<◌, ℕ}
use Rattle.layers.specs.Rows.{NestsAll}
use Rattle.layers.proofs.rules.nests_creases.Given as goal

abbrev pub invariant-loop-i : goal.invariant-loop-i
invariant-loop-i l = (i : ℕ) → i < l.i → NestsAll l.sectors l.order i

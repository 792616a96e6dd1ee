use Rattle.std.proofs.Common.{◌<◌, ℕ}
use Rattle.layers.specs.Rows.{ClearsAll}
use Rattle.layers.proofs.rules.crosses_no_crease.Given as goal

abbrev pub invariant-loop-i : goal.invariant-loop-i
invariant-loop-i l = (i : ℕ) → i < l.i → ClearsAll l.sectors l.order i

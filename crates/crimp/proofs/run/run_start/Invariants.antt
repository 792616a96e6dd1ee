use Rattle.std.proofs.Common.{◌<◌, ℕ}
use Rattle.crimp.specs.Entries.{BeginsRun}
use Rattle.crimp.proofs.run.run_start.Given as goal

abbrev pub invariant-loop-i : goal.invariant-loop-i
invariant-loop-i l = (j : ℕ) → j < l.i → BeginsRun l.entries j → ⊥

use Rattle.std.proofs.Common.{◌<◌, ◌+◌, ◌%◌, ℕ, length}
use Rattle.crimp.specs.Entries.{IsLeastEntry}
use Rattle.crimp.proofs.run.run_length.Given as goal

abbrev pub invariant-loop-count : goal.invariant-loop-count
invariant-loop-count l = (k : ℕ) → k < l.count → IsLeastEntry l.entries ((l.start + k) % length l.entries)

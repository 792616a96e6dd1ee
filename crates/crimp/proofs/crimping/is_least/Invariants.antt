use Rattle.std.proofs.Common.{◌<◌, ◌≤◌, ℕ}
use Rattle.crimp.specs.Cycle.{entry_at}
use Rattle.crimp.proofs.crimping.is_least.Given as goal

abbrev pub invariant-loop-other : goal.invariant-loop-other
invariant-loop-other l = (j : ℕ) → j < l.other-index → (entry_at l.entries l.i).angle ≤ (entry_at l.entries j).angle

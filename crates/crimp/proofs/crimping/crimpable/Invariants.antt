use Rattle.std.proofs.Common.{◌<◌, ℕ}
use Rattle.crimp.specs.Cycle.{Crimpable}
use Rattle.crimp.proofs.crimping.crimpable.Given as goal

abbrev pub invariant-loop-i : goal.invariant-loop-i
invariant-loop-i l = (j : ℕ) → j < l.i → Crimpable l.entries j → ⊥

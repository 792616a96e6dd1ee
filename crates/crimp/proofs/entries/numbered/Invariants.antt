use Rattle.std.proofs.Common.{◌≡◌, take, length}
use Rattle.crimp.specs.Cycle.{numbered}
use Rattle.crimp.proofs.entries.numbered.Given as goal

abbrev pub invariant-loop-i : goal.invariant-loop-i
invariant-loop-i l = record { value : l.entries.items ≡ numbered 0 (take l.i l.sectors); long : length l.entries.items ≡ l.i }

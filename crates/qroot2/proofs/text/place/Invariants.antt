use Rattle.std.proofs.Common.{take}
use Rattle.qroot2.specs.Digits.{Lacks}
use Rattle.qroot2.proofs.text.place.Given as goal

abbrev pub invariant-loop-i : goal.invariant-loop-i
invariant-loop-i l = Lacks l.at (take l.i l.bytes)

use Rattle.std.proofs.Common.{take}
use Rattle.qroot2.specs.Digits.{AllDigits}
use Rattle.decimals.proofs.cut.run_len.Given as goal

abbrev pub invariant-loop-i : goal.invariant-loop-i
invariant-loop-i l = AllDigits (take l.i l.bytes)

use Rattle.std.proofs.Common.{take}
use Rattle.qroot2.specs.Digits.{Lacks}
use Rattle.plane.proofs.point_text.comma.Given as goal

abbrev pub invariant-loop-i : goal.invariant-loop-i
invariant-loop-i l = Lacks 44 (take l.i l.bytes)

use Rattle.std.proofs.Common.{take}
use Rattle.pattern.specs.Fitting.{AreOnSame}
use Rattle.pattern.proofs.recolour.are_on_same.Given as goal

abbrev pub invariant-loop-i : goal.invariant-loop-i
invariant-loop-i l = AreOnSame (take l.i l.gone) (take l.i l.come)

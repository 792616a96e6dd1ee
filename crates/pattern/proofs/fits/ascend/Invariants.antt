use Rattle.std.proofs.Common.{take}
use Rattle.creases.specs.Creases.{Ascends}
use Rattle.pattern.proofs.fits.ascend.Given as goal

abbrev pub invariant-loop-i : goal.invariant-loop-i
invariant-loop-i l = Ascends (take l.i l.creases)

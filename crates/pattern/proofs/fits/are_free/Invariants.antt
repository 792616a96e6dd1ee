use Rattle.std.proofs.Common.{take}
use Rattle.std.specs.Prelude.{All}
use Rattle.pattern.specs.Fitting.{IsFreeBut}
use Rattle.pattern.proofs.fits.are_free.Given as goal

abbrev pub invariant-loop-crease : goal.invariant-loop-crease
invariant-loop-crease l = All (IsFreeBut l.pattern.creases l.removed) (take l.crease-index l.creases)

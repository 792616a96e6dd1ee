use Rattle.std.proofs.Common.{take}
use Rattle.std.specs.Prelude.{All, Contains}
use Rattle.pattern.proofs.fits.has_all.Given as goal

abbrev pub invariant-loop-crease : goal.invariant-loop-crease
invariant-loop-crease l = All (λ f. Contains l.pattern.creases f) (take l.crease-index l.creases)

use Rattle.std.proofs.Common.{take}
use Rattle.std.specs.Prelude.{All}
use Rattle.sheet.specs.Pattern.{IsKey}
use Rattle.pattern.proofs.fits.are_keys.Given as goal

abbrev pub invariant-loop-crease : goal.invariant-loop-crease
invariant-loop-crease l = All (λ f. IsKey l.sheet f.seg) (take l.crease-index l.creases)

use Rattle.std.proofs.Common.{take}
use Rattle.std.specs.Prelude.{All}
use Rattle.exact.specs.Plane.{Overlap}
use Rattle.pattern.proofs.apart.is_apart_from.Given as goal

abbrev pub invariant-loop-crease : goal.invariant-loop-crease
invariant-loop-crease l = All (λ f. ¬ Overlap l.seg f.seg) (take l.crease-index l.later)

use Rattle.std.proofs.Common.{take}
use Rattle.std.specs.Prelude.{All, Contains}
use Rattle.pattern.proofs.Stepping.{AreLeft}
use Rattle.pattern.proofs.step.take_all.Given as goal

abbrev pub invariant-loop-crease : goal.invariant-loop-crease
invariant-loop-crease l = record {
  there : All (λ f. Contains l.fn.creases f) (take l.crease-index l.gone);
  left : AreLeft l.fn.creases (take l.crease-index l.gone) l.creases;
}

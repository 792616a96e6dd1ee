use Rattle.std.proofs.Common.{take}
use Rattle.pattern.specs.Fitting.{CanCome}
use Rattle.pattern.proofs.Stepping.{AreMore}
use Rattle.pattern.proofs.step.put_all.Given as goal

abbrev pub invariant-loop-crease : goal.invariant-loop-crease
invariant-loop-crease l = record {
  come : CanCome l.sheet l.fn.creases (take l.crease-index l.come);
  more : AreMore l.fn.creases (take l.crease-index l.come) l.creases;
}

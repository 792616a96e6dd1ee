use Rattle.std.proofs.Common.{◌≡◌, length, take}
use Rattle.std.specs.Prelude.{All, Contains}
use Rattle.pattern.specs.Fitting.{AreExchanged}
use Rattle.pattern.proofs.recolour.recolour_all.Given as goal

abbrev pub invariant-loop-i : goal.invariant-loop-i
invariant-loop-i l = record {
  there : All (λ f. Contains l.fn.creases f) (take l.i l.gone);
  exchanged : AreExchanged l.fn.creases (take l.i l.gone) (take l.i l.come) l.creases;
  count : length l.creases ≡ length l.fn.creases;
}

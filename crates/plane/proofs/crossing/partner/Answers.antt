use Rattle.std.proofs.Common.{◌∙◌, ap, arith}
use Rattle.plane.proofs.Passed.{passed, opposite_passed}
use Rattle.plane.proofs.callers.Crossed.{partner_down}
use Rattle.plane.specs.Ways.{root}
use Rattle.plane.proofs.crossing.partner.Goals as goal

pub returns-then-norm-lt0-clause-value : goal.returns-then-norm-lt0-clause-value
returns-then-norm-lt0-clause-value c =
    partner_down (root c.args.x) (root c.new.result) c.norm.result (rw (passed c.norm.result (omega (arith, c.norm.ensures.within))) at c.if-norm-lt0.true) c.norm.ensures.value
    (ap (λ p. p.a) c.new.ensures ∙ opposite_passed c.a.result c.args.x.a c.a.ensures.value c.a.ensures.bound)
    (ap (λ p. p.b) c.new.ensures ∙ passed c.b.result (omega (arith, c.b.ensures.bound)) ∙ c.b.ensures.value)

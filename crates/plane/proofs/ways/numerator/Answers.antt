use Rattle.std.proofs.Common.{ap, ◌∙◌, arith}
use Rattle.plane.proofs.Passed.{passed_small, passed_as}
use Rattle.plane.proofs.Numerators.{numerator_is}
use Rattle.plane.specs.Ways.{root}
use Rattle.plane.proofs.ways.numerator.Goals as goal

pub returns-clause-value : goal.returns-clause-value
returns-clause-value c =
    let x = c.a.ensures.canonical in
    numerator_is c.args.x.now (root c.new.result)
    (ap (λ p. p.a) c.new.ensures ∙ passed_as c.from.result c.args.x.now.a (c.from.ensures ∙ passed_small c.a.result c.args.x.now.a c.a.ensures.value x.a) (omega (arith, x.a)))
    (ap (λ p. p.b) c.new.ensures ∙ passed_as c.from-2.result c.args.x.now.b (c.from-2.ensures ∙ passed_small c.b.result c.args.x.now.b c.b.ensures.value x.b) (omega (arith, x.b)))

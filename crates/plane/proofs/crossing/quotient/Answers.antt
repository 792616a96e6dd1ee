use Rattle.std.proofs.Common.{ap, ◌∙◌, arith}
use Rattle.geometry.specs.Root.{times}
use Rattle.plane.proofs.Passed.{passed, below_passed}
use Rattle.plane.proofs.callers.Crossed.{quotient_some}
use Rattle.plane.specs.Ways.{root}
use Rattle.plane.proofs.crossing.quotient.Goals as goal

pub returns-clause-some : goal.returns-clause-some
returns-clause-some c =
    quotient_some c.new.result _ _ _ c.args.below (times (root c.args.n) (root c.args.by))
    (passed c.a.result (omega (arith, c.a.ensures.bound)) ∙ c.a.ensures.value ∙ ap (λ r. r.a) c.product-top.ensures)
    (passed c.b.result (omega (arith, c.b.ensures.bound)) ∙ c.b.ensures.value ∙ ap (λ r. r.b) c.product-top.ensures)
    (below_passed c.args.below c.requires.below.1) c.new.ensures.some

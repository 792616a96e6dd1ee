use Rattle.std.proofs.Common.{ap, ◌∙◌, arith}
use Rattle.plane.proofs.Passed.{multiple_passed}
use Rattle.plane.proofs.Numerators.{multiple_is}
use Rattle.plane.specs.Ways.{root}
use Rattle.plane.proofs.ways.scaled.Goals as goal

pub returns : goal.returns
returns c = multiple_is (root c.args.x) (root c.new.result) c.args.n
    (ap (λ p. p.a) c.new.ensures ∙ multiple_passed c.a.result c.args.x.a c.from-n.result c.args.n c.a.ensures.value c.a.ensures.bound c.from-n.ensures (omega arith) (omega (arith, c.requires)))
    (ap (λ p. p.b) c.new.ensures ∙ multiple_passed c.b.result c.args.x.b c.from-n.result c.args.n c.b.ensures.value c.b.ensures.bound c.from-n.ensures (omega arith) (omega (arith, c.requires)))

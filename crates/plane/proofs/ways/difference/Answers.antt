use Rattle.std.proofs.Common.{ap, ◌∙◌, arith}
use Rattle.plane.proofs.Passed.{passed, passed_small}
use Rattle.plane.proofs.Numerators.{difference_is}
use Rattle.plane.specs.Ways.{root}
use Rattle.plane.proofs.ways.difference.Goals as goal

pub returns-clause-value : goal.returns-clause-value
returns-clause-value c =
    let x = c.a.ensures.canonical in
    let y = c.a-2.ensures.canonical in
    let xa = passed_small c.a.result _ c.a.ensures.value x.a in
    let ya = passed_small c.a-2.result _ c.a-2.ensures.value y.a in
    let xd = passed_small c.d.result _ c.d.ensures.value (omega (arith, x.d)) in
    let yd = passed_small c.d-2.result _ c.d-2.ensures.value (omega (arith, y.d)) in
    let xb = passed_small c.b.result _ c.b.ensures.value x.b in
    let yb = passed_small c.b-2.result _ c.b-2.ensures.value y.b in
    let d3 = passed_small c.d-3.result _ c.d-3.ensures.value (omega (arith, x.d)) in
    let d4 = passed_small c.d-4.result _ c.d-4.ensures.value (omega (arith, y.d)) in
    let first = ap (λ p. p.a) c.new.ensures ∙ passed c.crossed.result (omega (arith, c.crossed.ensures.within)) ∙ rw (xa, ya, xd, yd) at c.crossed.ensures.value in
    let second = ap (λ p. p.b) c.new.ensures ∙ passed c.crossed-2.result (omega (arith, c.crossed-2.ensures.within)) ∙ rw (xb, yb, d3, d4) at c.crossed-2.ensures.value in
    difference_is c.args.x.now c.args.y.now (root c.new.result) x.positive y.positive first second

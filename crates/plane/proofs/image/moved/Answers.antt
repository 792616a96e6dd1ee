use Rattle.std.proofs.Common.{◌≤◌, ◌^◌, arith, ap, ◌∙◌}
use Rattle.geometry.specs.Root.{Root, plus, times, count, size}
use Rattle.geometry.proofs.Sizes.{scaled_within}
use Rattle.plane.specs.Ways.{root}
use Rattle.plane.proofs.Passed.{passed, below_passed}
use Rattle.plane.proofs.callers.Crossed.{quotient_some}
use Rattle.plane.proofs.callers.Imaged.{sum_fits, sum_root, given_none}
use Rattle.plane.proofs.image.moved.Goals as goal

pub add-top-requires : goal.add-top-requires
add-top-requires c =
    let s : size (root c.scaled.result) ≤ 2 ^ 110 = omega (arith, ap size c.scaled.ensures, scaled_within (root c.args.from) c.args.others (2 ^ 69) (2 ^ 41) c.requires.from c.requires.others) in
    sum_fits (root c.scaled.result) (root c.args.by) s c.requires.by

pub returns-clause-some : goal.returns-clause-some
returns-clause-some c =
    let r = plus (times (root c.args.from) (count c.args.others)) (root c.args.by) in
    let top = sum_root c.scaled.result c.args.by c.add-top.result (times (root c.args.from) (count c.args.others)) c.add-top.ensures c.scaled.ensures in
    quotient_some c.new.result _ _ _ c.args.below r
    (passed c.a.result (omega (arith, c.a.ensures.bound)) ∙ c.a.ensures.value ∙ ap (λ (z : Root). z.a) top)
    (passed c.b.result (omega (arith, c.b.ensures.bound)) ∙ c.b.ensures.value ∙ ap (λ (z : Root). z.b) top)
    (below_passed c.args.below c.requires.below.1) c.new.ensures.some

pub returns-clause-none : goal.returns-clause-none
returns-clause-none c =
    let r = plus (times (root c.args.from) (count c.args.others)) (root c.args.by) in
    let top = sum_root c.scaled.result c.args.by c.add-top.result (times (root c.args.from) (count c.args.others)) c.add-top.ensures c.scaled.ensures in
    given_none c.new.result _ _ _ c.args.below r
    (passed c.a.result (omega (arith, c.a.ensures.bound)) ∙ c.a.ensures.value ∙ ap (λ (z : Root). z.a) top)
    (passed c.b.result (omega (arith, c.b.ensures.bound)) ∙ c.b.ensures.value ∙ ap (λ (z : Root). z.b) top)
    (below_passed c.args.below c.requires.below.1) c.new.ensures.none

use Rattle.judge.proofs.Sums.{closes}
use Rattle.judge.proofs.Verdicts.{some_rays, equal_sums, stuck_is}
use Rattle.judge.proofs.verdict.verdict_on.Goals as goal

pub reduce-requires : goal.reduce-requires
reduce-requires c =
    let t = equal_sums c.args.star.now c.rays-rays.result.now c.sectors-sectors.result c.list-list.result.now c.sectors-sectors.ensures c.rays-rays.ensures.value c.list-list.ensures.value (some_rays c.rays-rays.result.now c.if-is_empty.ensures) c.if-rays-eq1.false
    _ _ c.angle_sum-even.ensures c.angle_sum-odd.ensures c.if-even-odd.false in
    closes c.sectors-sectors.result t.some t.kawasaki

pub returns-in-Stuck : goal.returns-in-Stuck
returns-in-Stuck c =
    let t = equal_sums c.args.star.now c.rays-rays.result.now c.sectors-sectors.result c.list-list.result.now c.sectors-sectors.ensures c.rays-rays.ensures.value c.list-list.ensures.value (some_rays c.rays-rays.result.now c.if-is_empty.ensures) c.if-rays-eq1.false
    _ _ c.angle_sum-even.ensures c.angle_sum-odd.ensures c.if-even-odd.false in
    stuck_is c.args.star.now c.rays-rays.result.now c.sectors-sectors.result c.in-Stuck.run' c.cause.result c.sectors-sectors.ensures c.rays-rays.ensures.value t c.in-Stuck.ensures.exact.1 c.in-Stuck.ensures.run c.cause.ensures

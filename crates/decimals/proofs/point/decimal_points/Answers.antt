use Rattle.std.proofs.Common.{arith, subst}
use Rattle.std.proofs.lemmas.List.{take_all}
use Rattle.decimals.specs.DecimalPoint.{AreDecimalPoints}
use Rattle.decimals.proofs.callers.Points.{points_more, points_length}
use Rattle.decimals.proofs.point.decimal_points.Goals as goal

pub loop-point-preserved : goal.loop-point-preserved
loop-point-preserved c =
    points_more c.args.scale c.args.origin c.args.points.now c.loop-point.list.items _ c.loop-point.point-index
    c.point-item.result c.decimal_point.result c.loop-point-test.true c.point-item.is
    c.in_ok-push.ensures.items c.loop-point.invariant c.decimal_point.ensures

pub returns-clause-length : goal.returns-clause-length
returns-clause-length c =
    let list = c.loop-point.list.items in
    let whole = take_all c.loop-point.point-index c.args.points.now (omega (arith, c.loop-point-test.false)) in
    points_length c.args.scale c.args.origin c.args.points.now list
    (subst (λ xs. AreDecimalPoints c.args.scale c.args.origin xs list) whole c.loop-point.invariant)

use Rattle.plane.proofs.callers.Told.{fails}
use Rattle.plane.proofs.callers.Ends.{other_order, ends_in_order, ends_turned, none_between, none_turned}
use Rattle.plane.proofs.segment.directed.Goals as goal
use Rattle.geometry.proofs.Segments.{join}

pub in_order-requires-else-is_before : goal.in_order-requires-else-is_before
in_order-requires-else-is_before c = other_order c.args.p c.args.q c.is_same_point.result c.is_before.result c.is_same_point.ensures.same c.is_before.ensures c.if-is_same_point.false c.if-is_before.false

pub returns-then-is_before-clause-ok : goal.returns-then-is_before-clause-ok
returns-then-is_before-clause-ok c = ends_in_order c.args.p c.args.q c.in_order.result c.in_order.ensures.ok

pub returns-then-is_before-clause-not_direction : goal.returns-then-is_before-clause-not_direction
returns-then-is_before-clause-not_direction c =
    join c.in_order.ensures.not_direction (none_between c.args.p c.args.q (c.is_before.ensures.0 c.if-is_before.true) (fails c.is_same_point.ensures.equal c.if-is_same_point.false))

pub returns-else-is_before-clause-ok : goal.returns-else-is_before-clause-ok
returns-else-is_before-clause-ok c = ends_turned c.args.p c.args.q c.in_order-else-is_before.result c.in_order-else-is_before.ensures.ok

pub returns-else-is_before-clause-not_direction : goal.returns-else-is_before-clause-not_direction
returns-else-is_before-clause-not_direction c =
    join c.in_order-else-is_before.ensures.not_direction
    (none_turned c.args.p c.args.q (other_order c.args.p c.args.q c.is_same_point.result c.is_before.result c.is_same_point.ensures.same c.is_before.ensures c.if-is_same_point.false c.if-is_before.false) (fails c.is_same_point.ensures.equal c.if-is_same_point.false))

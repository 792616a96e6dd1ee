use Rattle.plane.proofs.callers.Told.{later_second, later_first, fails}
use Rattle.plane.proofs.order.later.Goals as goal

pub returns-then-is_before : goal.returns-then-is_before
returns-then-is_before c = later_second c.args.a.now c.args.b.now (c.is_before.ensures.0 c.if-is_before.true)

pub returns-else-is_before : goal.returns-else-is_before
returns-else-is_before c = later_first c.args.a.now c.args.b.now (fails c.is_before.ensures c.if-is_before.false)

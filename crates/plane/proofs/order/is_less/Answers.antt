use Rattle.std.proofs.Common.{ap, ◌∙◌}
use Rattle.std.specs.Ordering.{is_lt}
use Rattle.plane.proofs.callers.Told.{less_test}
use Rattle.plane.proofs.order.is_less.Goals as goal

pub returns : goal.returns
returns c = less_test c.args.x.now c.args.y.now c.d-x.ensures.canonical c.d-y.ensures.canonical c.is_lt.result (c.is_lt.ensures ∙ ap is_lt c.cmp.ensures.order)

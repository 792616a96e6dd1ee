use Rattle.plane.proofs.callers.Orders.{segment_total, segment_exact}
use Rattle.plane.proofs.laws.segment_order_is_total.Goals as goal

pub returns-clause-total : goal.returns-clause-total
returns-clause-total c = segment_total

pub returns-clause-exact : goal.returns-clause-exact
returns-clause-exact c = segment_exact

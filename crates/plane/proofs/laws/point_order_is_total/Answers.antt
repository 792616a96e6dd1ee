use Rattle.plane.proofs.callers.Orders.{point_total, point_exact}
use Rattle.plane.proofs.laws.point_order_is_total.Goals as goal

pub returns-clause-total : goal.returns-clause-total
returns-clause-total c = point_total

pub returns-clause-exact : goal.returns-clause-exact
returns-clause-exact c = point_exact

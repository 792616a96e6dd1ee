use Rattle.plane.proofs.callers.Orders.{point_less, point_equal}
use Rattle.plane.proofs.laws.point_order_is_of_values.Goals as goal

pub returns-clause-less : goal.returns-clause-less
returns-clause-less c = point_less

pub returns-clause-equal : goal.returns-clause-equal
returns-clause-equal c = point_equal

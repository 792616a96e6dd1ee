use Rattle.plane.proofs.callers.Orders.{segment_less}
use Rattle.plane.proofs.laws.segment_order_is_of_values.Goals as goal

pub returns : goal.returns
returns c = segment_less

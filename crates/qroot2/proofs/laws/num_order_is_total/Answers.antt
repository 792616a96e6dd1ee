use Rattle.exact.proofs.Order.{num_total}
use Rattle.qroot2.proofs.laws.num_order_is_total.Goals as goal

pub returns : goal.returns
returns c = num_total

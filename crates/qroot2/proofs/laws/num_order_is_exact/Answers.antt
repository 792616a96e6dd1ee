use Rattle.exact.proofs.Order.{num_exact}
use Rattle.qroot2.proofs.laws.num_order_is_exact.Goals as goal

pub returns : goal.returns
returns c = num_exact

use Rattle.exact.proofs.Order.{linear}
use Rattle.exact.proofs.laws.order_is_total.Goals as goal

pub returns : goal.returns
returns c = linear

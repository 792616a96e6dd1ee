use Rattle.qroot2.proofs.callers.Signs.{values_decide}
use Rattle.qroot2.proofs.laws.num_order_is_of_values.Goals as goal

pub returns : goal.returns
returns c = values_decide

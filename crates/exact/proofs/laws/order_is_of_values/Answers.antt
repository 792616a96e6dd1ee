use Rattle.exact.proofs.Told.{less_values}
use Rattle.exact.proofs.laws.order_is_of_values.Goals as goal

pub returns : goal.returns
returns c = less_values

use Rattle.exact.proofs.Positive.{less_trans}
use Rattle.exact.proofs.laws.order_is_transitive.Goals as goal

pub returns : goal.returns
returns c = less_trans

use Rattle.exact.proofs.Kept.{less_add}
use Rattle.exact.proofs.laws.order_is_kept_by_adding.Goals as goal

pub returns : goal.returns
returns c = less_add

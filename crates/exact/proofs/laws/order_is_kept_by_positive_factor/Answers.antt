use Rattle.exact.proofs.Kept.{less_mul}
use Rattle.exact.proofs.laws.order_is_kept_by_positive_factor.Goals as goal

pub returns : goal.returns
returns c = less_mul

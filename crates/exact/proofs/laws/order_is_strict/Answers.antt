use Rattle.exact.proofs.Told.{less_not_same, less_not_back}
use Rattle.exact.proofs.laws.order_is_strict.Goals as goal

pub returns : goal.returns
returns c = λ x y h. (less_not_same x y h, less_not_back x y h)

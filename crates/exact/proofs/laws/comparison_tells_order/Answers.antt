use Rattle.exact.proofs.Told.{tells}
use Rattle.exact.proofs.laws.comparison_tells_order.Goals as goal

pub returns : goal.returns
returns c = tells

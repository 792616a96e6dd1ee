use Rattle.exact.proofs.Root.{side}
use Rattle.exact.proofs.laws.has_side.Goals as goal

pub returns : goal.returns
returns c = side

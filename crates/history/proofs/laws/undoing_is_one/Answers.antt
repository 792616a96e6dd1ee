use Rattle.history.proofs.callers.Steps.{one_earlier}
use Rattle.history.proofs.laws.undoing_is_one.Goals as goal

pub returns : goal.returns
returns c = one_earlier

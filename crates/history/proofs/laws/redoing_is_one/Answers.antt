use Rattle.history.proofs.callers.Steps.{one_later}
use Rattle.history.proofs.laws.redoing_is_one.Goals as goal

pub returns : goal.returns
returns c = one_later

use Rattle.exact.proofs.Turns.{turns}
use Rattle.exact.proofs.laws.turns_by_angle.Goals as goal

pub returns : goal.returns
returns c = turns

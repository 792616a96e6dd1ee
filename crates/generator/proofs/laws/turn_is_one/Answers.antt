use Rattle.generator.proofs.Draws.{turn_one}
use Rattle.generator.proofs.laws.turn_is_one.Goals as goal

pub returns : goal.returns
returns c = turn_one

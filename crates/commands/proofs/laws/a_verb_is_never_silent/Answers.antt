use Rattle.commands.proofs.Spoken.{spoken}
use Rattle.commands.proofs.laws.a_verb_is_never_silent.Goals as goal

pub returns : goal.returns
returns c = spoken

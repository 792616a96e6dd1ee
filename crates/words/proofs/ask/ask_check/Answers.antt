use Rattle.std.proofs.Common.{rules}
use Rattle.words.proofs.FirstWords.{only_check}
use Rattle.words.proofs.ask.ask_check.Goals as goal

pub returns-in-Ok-None : goal.returns-in-Ok-None
returns-in-Ok-None c = only_check _ (c.in-Ok-None.ensures.none (search rules))

use Rattle.std.proofs.Common.{rules}
use Rattle.words.proofs.FirstWords.{only_serve}
use Rattle.words.proofs.ask.ask_serve.Goals as goal

pub returns-in-Ok-None : goal.returns-in-Ok-None
returns-in-Ok-None c = only_serve _ (c.in-Ok-None.ensures.none (search rules))

use Rattle.lines.proofs.callers.Words.{one_list}
use Rattle.lines.proofs.laws.words_are_one.Goals as goal

pub returns : goal.returns
returns c = one_list

use Rattle.words.proofs.OneTask.{one_task}
use Rattle.words.proofs.laws.words_ask_one_thing.Goals as goal

pub returns : goal.returns
returns c = one_task

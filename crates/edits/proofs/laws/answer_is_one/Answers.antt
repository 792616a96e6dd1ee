use Rattle.edits.proofs.OneAnswer.{HasOneAnswer}
use Rattle.edits.proofs.OneEdit.{edit_one}
use Rattle.edits.proofs.laws.answer_is_one.Goals as goal

pub returns : goal.returns
unfolding HasOneAnswer
returns c = edit_one

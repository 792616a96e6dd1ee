use Rattle.projects.proofs.OneStep.{undo_after_do}
use Rattle.projects.proofs.laws.undo_gives_back.Goals as goal

pub returns : goal.returns
returns c = undo_after_do

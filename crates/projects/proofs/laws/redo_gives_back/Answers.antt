use Rattle.projects.proofs.OneStep.{redo_after_undo, history_after_undo}
use Rattle.projects.proofs.laws.redo_gives_back.Goals as goal

pub returns : goal.returns
returns c = record { pattern = redo_after_undo; history = history_after_undo }

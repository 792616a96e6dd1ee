use Rattle.rows.proofs.Changing.{rows_redone}
use Rattle.rows.proofs.laws.rows_after_a_redo.Goals as goal

pub returns : goal.returns
returns c = rows_redone

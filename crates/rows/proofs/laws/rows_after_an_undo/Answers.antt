use Rattle.rows.proofs.Changing.{rows_undone}
use Rattle.rows.proofs.laws.rows_after_an_undo.Goals as goal

pub returns : goal.returns
returns c = rows_undone

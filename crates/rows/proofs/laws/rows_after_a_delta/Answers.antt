use Rattle.rows.proofs.Changing.{rows_done}
use Rattle.rows.proofs.laws.rows_after_a_delta.Goals as goal

pub returns : goal.returns
returns c = rows_done

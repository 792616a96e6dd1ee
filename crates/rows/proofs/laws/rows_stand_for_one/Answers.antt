use Rattle.rows.proofs.OneProject.{one_project}
use Rattle.rows.proofs.laws.rows_stand_for_one.Goals as goal

pub returns : goal.returns
returns c = one_project

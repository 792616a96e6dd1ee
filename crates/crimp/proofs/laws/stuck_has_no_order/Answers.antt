use Rattle.crimp.proofs.Stuck.{no_order}
use Rattle.crimp.proofs.laws.stuck_has_no_order.Goals as goal

pub returns : goal.returns
returns c = λ sectors n s k f. no_order sectors n s k f.0 f.1

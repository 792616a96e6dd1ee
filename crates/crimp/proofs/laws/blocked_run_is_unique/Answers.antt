use Rattle.crimp.proofs.Unique.{one_run}
use Rattle.crimp.proofs.laws.blocked_run_is_unique.Goals as goal

pub returns : goal.returns
returns c = one_run

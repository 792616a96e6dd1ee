use Rattle.judge.proofs.Verdicts.{one}
use Rattle.judge.proofs.laws.verdict_is_one.Goals as goal

pub returns : goal.returns
returns c = λ rays verdict other S V W. one rays verdict other S c.blocked_run_is_unique.ensures V W

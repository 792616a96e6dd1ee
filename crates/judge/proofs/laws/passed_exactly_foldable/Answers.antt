use Rattle.judge.proofs.Verdicts.{passed_exactly}
use Rattle.judge.proofs.laws.passed_exactly_foldable.Goals as goal

pub returns : goal.returns
returns c = passed_exactly

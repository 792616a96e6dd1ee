use Rattle.subdivide.proofs.callers.OneAnswer.{one_answer}
use Rattle.subdivide.proofs.laws.cut_is_one.Goals as goal

pub returns : goal.returns
returns c = one_answer

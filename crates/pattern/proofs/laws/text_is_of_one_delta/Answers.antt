use Rattle.pattern.proofs.callers.DeltaLines.{one_delta}
use Rattle.pattern.proofs.laws.text_is_of_one_delta.Goals as goal

pub returns : goal.returns
returns c = one_delta

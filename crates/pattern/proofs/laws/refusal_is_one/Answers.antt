use Rattle.pattern.proofs.callers.OneRefusal.{one_refusal}
use Rattle.pattern.proofs.laws.refusal_is_one.Goals as goal

pub returns : goal.returns
returns c = one_refusal

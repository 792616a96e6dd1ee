use Rattle.pattern.proofs.callers.Leading.{leads_to_one}
use Rattle.pattern.proofs.laws.delta_leads_to_one.Goals as goal

pub returns : goal.returns
returns c = leads_to_one

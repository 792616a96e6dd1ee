use Rattle.projects.proofs.OneStep.{one_result}
use Rattle.projects.proofs.laws.step_leads_to_one.Goals as goal

pub returns : goal.returns
returns c = one_result

use Rattle.projects.proofs.Walks.{past_back}
use Rattle.projects.proofs.laws.past_is_taken_back.Goals as goal

pub returns : goal.returns
returns c = past_back

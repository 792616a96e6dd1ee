use Rattle.routes.proofs.Begins.{begins}
use Rattle.routes.proofs.laws.asking_begins_with_a_verb.Goals as goal

pub returns : goal.returns
returns c query body text method route a = begins route method query body text a

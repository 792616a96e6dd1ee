use Rattle.crimp.proofs.Converse.{foldable_after}
use Rattle.crimp.proofs.laws.order_outlives_crimp.Goals as goal

pub returns : goal.returns
returns c = λ sectors i K s f. foldable_after sectors i K s f.0 f.1

use Rattle.routes.proofs.OneAsked.{one_asked}
use Rattle.routes.proofs.laws.asking_is_one.Goals as goal

pub returns : goal.returns
returns c path query body text otherwise method route other f g a b = one_asked path query body text otherwise method route other f g a b

use Rattle.geometry.proofs.Segments.{crossing}
use Rattle.geometry.proofs.laws.sides_decide.Goals as goal

pub returns : goal.returns
returns c = λ s t k j p a b n h l. crossing s t k j p a b n (record { on = h }) (record { on = l })

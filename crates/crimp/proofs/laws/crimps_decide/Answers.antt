use Rattle.crimp.proofs.Ways.{same_ends}
use Rattle.crimp.proofs.laws.crimps_decide.Goals as goal

pub returns : goal.returns
returns c = λ sectors ends s k. same_ends sectors ends k s

use Rattle.lattice.proofs.callers.Apart.{usual_apart}
use Rattle.lattice.proofs.laws.default_has_no_two.Goals as goal

pub returns : goal.returns
returns c = usual_apart

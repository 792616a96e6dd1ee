use Rattle.lattice.proofs.callers.Apart.{far_away}
use Rattle.lattice.proofs.laws.nothing_is_near_off_the_axis.Goals as goal

pub returns : goal.returns
returns c = far_away

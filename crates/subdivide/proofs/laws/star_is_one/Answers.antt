use Rattle.subdivide.proofs.OneStar.{one_star}
use Rattle.subdivide.proofs.laws.star_is_one.Goals as goal

pub returns : goal.returns
returns c = one_star

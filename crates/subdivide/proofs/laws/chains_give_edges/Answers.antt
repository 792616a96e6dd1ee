use Rattle.subdivide.proofs.Cutting.{edges_of_steps}
use Rattle.subdivide.proofs.laws.chains_give_edges.Goals as goal

pub returns : goal.returns
returns c = edges_of_steps

use Rattle.subdivide.proofs.Cutting.{vertices_of_chains}
use Rattle.subdivide.proofs.laws.chains_give_vertices.Goals as goal

pub returns : goal.returns
returns c = vertices_of_chains

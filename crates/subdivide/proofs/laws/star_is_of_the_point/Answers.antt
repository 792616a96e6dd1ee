use Rattle.subdivide.proofs.PatternLines.{pattern_lines}
use Rattle.subdivide.proofs.Cutting.{vertex_moved}
use Rattle.subdivide.proofs.Rays.{star_moved}
use Rattle.subdivide.proofs.laws.star_is_of_the_point.Goals as goal

pub returns : goal.returns
returns c = λ pattern v w rays p s x h. (vertex_moved pattern (pattern_lines pattern p) v w s x, star_moved pattern (pattern_lines pattern p) v w rays s x h)

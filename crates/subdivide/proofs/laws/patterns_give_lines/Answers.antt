use Rattle.subdivide.proofs.PatternLines.{pattern_lines}
use Rattle.subdivide.proofs.laws.patterns_give_lines.Goals as goal

pub returns : goal.returns
returns c = pattern_lines

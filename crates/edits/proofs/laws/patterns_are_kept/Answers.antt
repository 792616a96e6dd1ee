use Rattle.edits.proofs.drawings.StillKeys.{drawn_pattern}
use Rattle.edits.proofs.drawings.StillPatterns.{erased_pattern, recoloured_pattern}
use Rattle.edits.proofs.laws.patterns_are_kept.Goals as goal

pub returns : goal.returns
returns c = record { drawn = drawn_pattern; erased = erased_pattern; recoloured = recoloured_pattern }

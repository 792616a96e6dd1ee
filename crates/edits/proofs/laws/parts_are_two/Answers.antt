use Rattle.edits.proofs.drawings.Overlapping.{front_part, back_part, only_parts}
use Rattle.edits.proofs.laws.parts_are_two.Goals as goal

pub returns : goal.returns
returns c = record { front = front_part; behind = back_part; only = only_parts }

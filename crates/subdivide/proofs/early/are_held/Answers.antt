use Rattle.subdivide.proofs.Finished.{held_of}
use Rattle.subdivide.proofs.early.are_held.Goals as goal

pub returns-in-Some : goal.returns-in-Some
returns-in-Some c = λ e. held_of c.in-Some.d c.args.lines.now c.requires (c.are_small.ensures e)

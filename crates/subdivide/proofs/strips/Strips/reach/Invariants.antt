use Rattle.subdivide.proofs.Standing.{AreRowsSeen}
use Rattle.subdivide.proofs.strips.Strips.reach.Given as goal

abbrev pub invariant-loop-row : goal.invariant-loop-row
invariant-loop-row l = AreRowsSeen l.lines l.line l.own l.row l.self l.near.items

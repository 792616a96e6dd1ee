use Rattle.subdivide.proofs.Ranked.{AreRankedTo}
use Rattle.subdivide.proofs.ranks.ranked.Given as goal

abbrev pub invariant-loop-point : goal.invariant-loop-point
invariant-loop-point l = AreRankedTo l.points l.point-items l.point-index l.vertices.items l.ranks.items

use Rattle.subdivide.proofs.Stepped.{AreRankedTo}
use Rattle.subdivide.proofs.edges.rank_cuts.Given as goal

abbrev pub invariant-loop-cut : goal.invariant-loop-cut
invariant-loop-cut l = AreRankedTo l.ranks l.cut-index l.fn.cuts.items l.cut-items

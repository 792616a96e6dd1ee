use Rattle.subdivide.specs.Ranks.{AreNumbered}
use Rattle.subdivide.proofs.ranks.in_order.Given as goal

abbrev pub invariant-loop-number : goal.invariant-loop-number
invariant-loop-number l = AreNumbered l.points l.number l.list.items

use Rattle.lattice.specs.Found.{Holds}
use Rattle.lattice.specs.Search.{IsSeen}
use Rattle.lattice.proofs.search.search.Given as goal

abbrev pub invariant-loop-n : goal.invariant-loop-n
invariant-loop-n l = Holds (IsSeen l.window l.n 0) l.found

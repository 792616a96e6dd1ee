use Rattle.lattice.specs.Found.{Holds}
use Rattle.lattice.specs.Search.{IsSeen}
use Rattle.lattice.proofs.search.scan.Given as goal

abbrev pub invariant-loop-j : goal.invariant-loop-j
invariant-loop-j l = Holds (IsSeen l.window l.n l.j) l.found

use Rattle.std.proofs.Common.{◌≡◌, length}
use Rattle.cpfile.specs.CpAxes.{Ruled}
use Rattle.cpfile.specs.CpSteps.{IsReadUpTo}
use Rattle.cpfile.proofs.reading.read_cp.Given as goal

abbrev pub invariant-loop-rest : goal.invariant-loop-rest
invariant-loop-rest l = record {
  ruled : (let r : Ruled = record { lattice = l.lattice; sheet = l.sheet } in l.reader ≡ r);
  read : (let r : Ruled = record { lattice = l.lattice; sheet = l.sheet } in IsReadUpTo r l.bytes l.rest l.tally);
}

abbrev pub decreases-loop-rest : goal.decreases-loop-rest
decreases-loop-rest l = length l.rest

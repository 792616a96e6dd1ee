use Rattle.pattern.proofs.Beside.{AreBeside}
use Rattle.pattern.proofs.apart.are_all_apart.Given as goal

abbrev pub invariant-loop-i : goal.invariant-loop-i
invariant-loop-i l = AreBeside l.creases l.i

use Rattle.std.proofs.Common.{◌≡◌}
use Rattle.ports.proofs.standard.StdSourceSource.take.Given as goal

abbrev pub invariant-loop-turn : goal.invariant-loop-turn
invariant-loop-turn l = l.self.faults ≡ l.initial.self.faults

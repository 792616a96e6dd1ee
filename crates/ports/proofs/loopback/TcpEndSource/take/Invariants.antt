use Rattle.std.proofs.Common.{◌≡◌}
use Rattle.ports.proofs.loopback.TcpEndSource.take.Given as goal

abbrev pub invariant-loop-turn : goal.invariant-loop-turn
invariant-loop-turn l = (l.self.take_faults ≡ l.initial.self.take_faults) × (l.self.put_faults ≡ l.initial.self.put_faults)

use Rattle.std.proofs.Common.{◌≡◌, ◌≤◌, length}
use Rattle.ports.proofs.loopback.TcpEndSink.put.Given as goal

abbrev pub invariant-loop-turn : goal.invariant-loop-turn
invariant-loop-turn l = (l.self.put_faults ≡ l.initial.self.put_faults) × (l.self.take_faults ≡ l.initial.self.take_faults) × (l.written ≤ length l.piece)

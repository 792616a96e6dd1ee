use Rattle.std.proofs.Common.{◌≡◌, ◌≤◌, length}
use Rattle.ports.proofs.standard.StdSinkSink.put.Given as goal

abbrev pub invariant-loop-turn : goal.invariant-loop-turn
invariant-loop-turn l = (l.self.faults ≡ l.initial.self.faults) × (l.written ≤ length l.piece)

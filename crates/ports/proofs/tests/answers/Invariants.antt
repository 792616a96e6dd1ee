use Rattle.std.proofs.Common.{◌≡◌, ◌≤◌, Some}
use Rattle.ports.proofs.tests.answers.Given as goal

-- the port is the one that was asked for, and no count has fallen
abbrev pub invariant-loop-turn : goal.invariant-loop-turn
invariant-loop-turn g l = record {
  port : g.D.Door.door_port l.door ≡ Some l.fn.port;
  later : g.D.Door.door_faults l.fn.door ≤ g.D.Door.door_faults l.door;
}

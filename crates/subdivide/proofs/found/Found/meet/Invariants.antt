use Rattle.subdivide.specs.Found.{Leads}
use Rattle.subdivide.proofs.Noted.{AreSettledTo}
use Rattle.subdivide.proofs.found.Found.meet.Given as goal

abbrev pub invariant-loop-first : goal.invariant-loop-first
invariant-loop-first l = Leads l.lines l.initial.self l.self (AreSettledTo l.lines l.line l.near l.first-index)

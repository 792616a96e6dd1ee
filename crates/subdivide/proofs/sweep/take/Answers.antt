use Rattle.std.proofs.Common.{subst}
use Rattle.subdivide.specs.Found.{Leads, AreSettled}
use Rattle.subdivide.proofs.Taken.{taken}
use Rattle.subdivide.proofs.sweep.take.Goals as goal

pub returns-clause-found : goal.returns-clause-found
returns-clause-found c = taken c.args.lines.now c.args.line c.in_ok-number.number c.reach.new.near.items c.args.found.now c.meet.new.self c.requires.swept c.in_ok-reach.ensures.near c.requires.found c.in_ok-number.ensures
    (subst (λ z. Leads c.args.lines.now c.args.found.now c.meet.new.self (AreSettled c.args.lines.now c.in_ok-number.number z)) c.deref.ensures.value c.in_ok-meet.ensures)

use Rattle.pattern.specs.Deltas.{Leads}
use Rattle.projects.proofs.Callers.{some_gives}
use Rattle.projects.proofs.Walks.{future_goes_on, some_proves}
use Rattle.projects.proofs.project.is_future.Goals as goal
use Rattle.geometry.proofs.Segments.{join}

pub loop-delta-preserved : goal.loop-delta-preserved
loop-delta-preserved c = join c.loop-delta.invariant
    (future_goes_on c.loop-delta.rest c.forth.new.self c.in-Some.delta.now c.loop-delta.now c.in-Some-2.later c.in-Some.ensures.some
    (some_proves c.in_ok-later.field-0 c.in-Some-2.later c.in-Some-2.is c.in_ok-later.ensures.exactly)
    (some_gives (Leads c.loop-delta.now c.in-Some.delta.now) c.in_ok-later.field-0 c.in-Some-2.later c.in-Some-2.is c.in_ok-later.ensures.some)
    c.in_ok-forth.ensures.ok)

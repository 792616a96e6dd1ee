use Rattle.std.proofs.Common.{refl}
use Rattle.pattern.specs.Deltas.{Leads, inverse_of}
use Rattle.pattern.proofs.callers.Told.{answers_no}
use Rattle.projects.specs.Projects.{IsPast}
use Rattle.projects.proofs.Callers.{some_gives}
use Rattle.projects.proofs.Walks.{past_goes_on, past_stops, none_refutes, some_proves}
use Rattle.projects.proofs.project.is_past.Goals as goal
use Rattle.geometry.proofs.Segments.{join}

pub returns-in-None : goal.returns-in-None
returns-in-None c = answers_no (IsPast c.args.history.now.past c.args.pattern.now)
    (λ h. past_stops c.loop-delta.rest.past c.in-Some.delta.now (inverse_of c.in-Some.delta.now) c.loop-delta.now c.in-Some.ensures.some refl
    (none_refutes c.in_ok-earlier.field-0 c.in-None.is c.in_ok-earlier.ensures.exactly) (c.loop-delta.invariant.same.0 h))

pub loop-delta-preserved : goal.loop-delta-preserved
loop-delta-preserved c =
    let leads : Leads c.loop-delta.now (inverse_of c.in-Some.delta.now) c.in-Some-2.earlier
    = some_gives (Leads c.loop-delta.now (inverse_of c.in-Some.delta.now)) c.in_ok-earlier.field-0 c.in-Some-2.earlier c.in-Some-2.is c.in_ok-earlier.ensures.some in
    record {
      pattern = leads.pattern;
      same = join c.loop-delta.invariant.same
          (past_goes_on c.loop-delta.rest c.back.new.self c.in-Some.delta.now (inverse_of c.in-Some.delta.now) c.loop-delta.now c.in-Some-2.earlier c.loop-delta.invariant.pattern c.in-Some.ensures.some refl
          (some_proves c.in_ok-earlier.field-0 c.in-Some-2.earlier c.in-Some-2.is c.in_ok-earlier.ensures.exactly) leads c.in_ok-back.ensures.ok);
    }

use Rattle.std.proofs.Common.{◌≡◌, ◌≤◌, rules, ap, refl, arith, ◌∙◌}
use Rattle.ports.specs.Streams.{Rose}
use Rattle.oriedit.specs.Serving.{ends_seen}
use Rattle.oriedit.proofs.SomeServed.{none_served, never_served, ended_served, broken_served, all_served, one_served, next_as, next_failed, rose_since}
use Rattle.oriedit.proofs.serving.serve.Goals as goal

pub returns-then-is_err-clause-serves : goal.returns-then-is_err-clause-serves
returns-then-is_err-clause-serves g c =
    let rose : Rose (g.D.Door.door_faults c.args.door.now) (g.D.Door.door_faults c.listen.new.self) = search rules in
    never_served _ _ _ _ _ _ _ _ _ _ c.listen.ensures.port rose (ap (ends_seen _) c.listen.ensures.ends)

pub loop-turn-init : goal.loop-turn-init
loop-turn-init g c = record {
  so_far = none_served _ _ _ _ (ap (ends_seen _) c.listen.ensures.ends);
  port = c.listen.ensures.port;
  door_faults = c.listen.ensures.cause.later;
  keeper_faults = omega arith;
  keeper_clean = λ x. x;
  keeper_path = refl;
}

pub returns-in-Ok-false-clause-serves : goal.returns-in-Ok-false-clause-serves
returns-in-Ok-false-clause-serves g c =
    let l : c.loop-turn._turn ≤ c.args.connections = omega (arith, c.loop-turn-test.true) in
    ended_served _ _ _ _ _ _ _ _ _ _ _ _ _ _ _ c.serve_next.ensures.keeper_clean
    (c.serve_next.ensures.port ∙ c.loop-turn.invariant.port) l c.loop-turn.invariant.so_far
    (next_as _ _ _ _ _ _ _ _ c.in-Ok-false.is c.in-Ok-false.field-0-test c.serve_next.ensures.next)

pub returns-in-Err-clause-serves : goal.returns-in-Err-clause-serves
returns-in-Err-clause-serves g c =
    let l : c.loop-turn._turn ≤ c.args.connections = omega (arith, c.loop-turn-test.true) in
    let rose : Rose (g.D.Door.door_faults c.args.door.now) (g.D.Door.door_faults c.serve_next.new.door) =
    rose_since _ _ _ c.loop-turn.invariant.door_faults c.in-Err.ensures.cause.failed in
    broken_served _ _ _ _ _ _ _ _ _ _ _ _ _ _ _ _ c.serve_next.ensures.keeper_clean
    (c.serve_next.ensures.port ∙ c.loop-turn.invariant.port) l rose c.loop-turn.invariant.so_far
    (next_failed _ _ _ _ _ _ _ c.in-Err.is c.serve_next.ensures.next)

pub loop-turn-preserved : goal.loop-turn-preserved
loop-turn-preserved g c = record {
  so_far = one_served _ _ _ _ _ _ _ _ _ c.serve_next.ensures.keeper_clean c.loop-turn.invariant.so_far
      (next_as _ _ _ _ _ _ _ _ c.in-Ok-true.is c.in-Ok-true.field-0-test c.serve_next.ensures.next);
  port = c.serve_next.ensures.port ∙ c.loop-turn.invariant.port;
  door_faults = omega (arith, c.serve_next.ensures.cause.later, c.loop-turn.invariant.door_faults);
  keeper_faults = omega (arith, c.serve_next.ensures.keeper_faults, c.loop-turn.invariant.keeper_faults);
  keeper_clean = λ x. c.loop-turn.invariant.keeper_clean (c.serve_next.ensures.keeper_clean x);
  keeper_path = c.serve_next.ensures.keeper_path ∙ c.loop-turn.invariant.keeper_path;
}

pub returns-clause-serves : goal.returns-clause-serves
returns-clause-serves g c =
    let m : c.loop-turn._turn ≡ c.args.connections = omega (arith, c.loop-turn-test.false, c.loop-turn.auto._turn-end) in
    all_served _ _ _ _ _ _ _ _ _ _ _ _ c.loop-turn.invariant.port m c.loop-turn.invariant.so_far

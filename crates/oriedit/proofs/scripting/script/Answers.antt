use Rattle.std.proofs.Common.{rules, ◌≡◌, ◌≤◌, ◌<◌, ◌++◌, ◌+◌, length, take, drop, refl, sym, subst, ◌∙◌, arith}
use Rattle.oriedit.specs.Script.{ScriptRuns}
use Rattle.ports.proofs.callers.Taken.{take_within, take_spent}
use Rattle.oriedit.proofs.UnitEnds.{nothing_kept}
use Rattle.oriedit.proofs.SoFar.{nothing_read, more_read, ended_at, ended, nothing_done, end_gave, read_on, piece_gave, piece_length}
use Rattle.oriedit.proofs.scripting.script.Goals as goal

pub returns-in_default-clause-script : goal.returns-in_default-clause-script
returns-in_default-clause-script g c = nothing_done _ _ _

pub loop-taken-init : goal.loop-taken-init
loop-taken-init g c = record {
  so_far = nothing_read _ _ _ _ c.new-unit.ensures.bytes;
  unfinished = nothing_kept _ _ c.new-unit.ensures.bytes c.new-unit.ensures.wanted;
  within = omega arith;
  no_fault = refl;
  sink_faults = omega arith;
  keeper_faults = omega arith;
  source_aside = refl;
  sink_aside = refl;
  keeper_clean = λ x. x;
  keeper_path = refl;
}

pub returns-in-Ok-eq0-clause-script : goal.returns-in-Ok-eq0-clause-script
returns-in-Ok-eq0-clause-script g c =
    let r = c.loop-taken.invariant.so_far in
    let none : c.in-Ok-eq0.field-0 ≡ 0 = search rules in
    let room : 0 < length (take c.min-room.result c.loop-taken.block) = search rules in
    let gave = end_gave _ _ _ _ r.bytes _ _ c.in-Ok-eq0.field-0 none c.in-Ok-eq0.ensures.bytes r.gave in
    ended _ _ _ _ _ _ _ _ _ _ c.answer_last.result c.answer_last.ensures.keeper_clean c.loop-taken-test.true (take_spent _ _ _ _ _ c.in-Ok-eq0.field-0 c.in-Ok-eq0.ensures.bytes room none)
    (read_on _ _ _ _ _ _ _ _ r gave)
    c.deref.ensures.value c.answer_last.ensures.last

pub returns-in-Err-answer_units-clause-script : goal.returns-in-Err-answer_units-clause-script
returns-in-Err-answer_units-clause-script g c =
    let r = c.loop-taken.invariant.so_far in
    let given = take_within _ _ _ _ _ _ c.in-Ok-take.ensures.bytes in
    let fits : c.in-Ok-take.count ≤ length c.take.new.buf = search (rules, given) in
    let long = piece_length c.take.new.buf (drop c.min-room.result c.loop-taken.block) c.in-Ok-take.count fits in
    let gave = piece_gave _ _ _ _ r.bytes _ c.take.new.buf (drop c.min-room.result c.loop-taken.block) c.in-Ok-take.count fits r.gave c.in-Ok-take.ensures.bytes in
    subst (ScriptRuns _ _ _ _ _) (sym c.status.ensures)
    (ended_at _ _ _ _ _ c.answer_units.new.unit.bytes.items _ _ _ _ _ _ c.in-Err-answer_units.early c.in-Err-answer_units.ensures.keeper_clean r gave (search (rules, long, given)) c.in-Err-answer_units.ensures.units)

pub loop-taken-preserved : goal.loop-taken-preserved
loop-taken-preserved g c =
    let r = c.loop-taken.invariant.so_far in
    let given = take_within _ _ _ _ _ _ c.in-Ok-take.ensures.bytes in
    let fits : c.in-Ok-take.count ≤ length c.take.new.buf = search (rules, given) in
    let rest = drop c.min-room.result c.loop-taken.block in
    let long = piece_length c.take.new.buf rest c.in-Ok-take.count fits in
    let gave = piece_gave _ _ _ _ r.bytes _ c.take.new.buf rest c.in-Ok-take.count fits r.gave c.in-Ok-take.ensures.bytes in
    record {
      so_far = more_read _ _ _ _ (take c.in-Ok-take.count (c.take.new.buf ++ rest)) c.answer_units.new.unit.bytes.items c.loop-taken.taken (c.loop-taken.taken + c.in-Ok-take.count) _ _ _ _ _ c.in_default-answer_units.ensures.keeper_clean r gave (omega (arith, long)) c.in_default-answer_units.ensures.units;
      unfinished = c.in_default-answer_units.ensures.unfinished refl;
      within = search (rules, given);
      no_fault = c.in-Ok-take.ensures.once ∙ c.loop-taken.invariant.no_fault;
      sink_faults = omega (arith, c.loop-taken.invariant.sink_faults, c.in_default-answer_units.ensures.sink_cause.later);
      keeper_faults = omega (arith, c.loop-taken.invariant.keeper_faults, c.in_default-answer_units.ensures.keeper_faults);
      source_aside = c.in-Ok-take.ensures.aside ∙ c.loop-taken.invariant.source_aside;
      sink_aside = c.in_default-answer_units.ensures.sink_aside ∙ c.loop-taken.invariant.sink_aside;
      keeper_clean = λ x. c.loop-taken.invariant.keeper_clean (c.in_default-answer_units.ensures.keeper_clean x);
      keeper_path = c.in_default-answer_units.ensures.keeper_path ∙ c.loop-taken.invariant.keeper_path;
    }

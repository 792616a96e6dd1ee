use Rattle.std.proofs.Common.{refl, sym, subst, ap, ◌∙◌, arith}
use Rattle.std.specs.Prelude.{Err}
use Rattle.std.proofs.lemmas.Result.{err_from_is_err_and}
use Rattle.oriedit.specs.Answering.{AnswersUnits}
use Rattle.oriedit.specs.Unfinished.{EndsLine}
use Rattle.oriedit.proofs.Feeding.{begun, one_more, some_of, ends_at, all_answered, still_unfinished}
use Rattle.oriedit.proofs.answering.answer_units.Goals as goal

pub loop-end-init : goal.loop-end-init
loop-end-init g c = record {
  so_far = begun _ _ _ _ _ c.requires;
  sink_faults = omega arith;
  keeper_faults = omega arith;
  sink_aside = refl;
  keeper_clean = λ x. x;
  keeper_path = refl;
}

pub returns-in_err-end_line-clause-units : goal.returns-in_err-end_line-clause-units
returns-in_err-end_line-clause-units g c =
    let p = err_from_is_err_and c.from_residual.result c.from_residual.ensures.1 in
    subst (AnswersUnits _ _ _ _ _) (sym (p.1 ∙ ap Err p.2)) (some_of _ _ _ _ _ _ _ c.loop-end.invariant.so_far)

pub returns-in_err-answer_unit-clause-units : goal.returns-in_err-answer_unit-clause-units
returns-in_err-answer_unit-clause-units g c =
    let p = err_from_is_err_and c.from_residual-in_err-answer_unit.result c.from_residual-in_err-answer_unit.ensures.1 in
    let whole = subst (EndsLine c.end_line.new.self.bytes.items c.end_line.new.self.wanted) c.if-branch.true c.in_ok-end_line.ensures.whole in
    subst (AnswersUnits _ _ _ _ _) (sym (p.1 ∙ ap Err p.2))
    (ends_at _ _ _ _ _ c.end_line.new.self.bytes.items c.deref.result.now c.end_line.new.self.bytes.items _ _ _ _ _ _ _ c.in_err-answer_unit.ensures.keeper_clean
    c.in-Some.ensures.some c.in_ok-end_line.ensures.bytes whole.0 c.deref.ensures.value c.loop-end.invariant.so_far c.in_err-answer_unit.ensures.one)

pub loop-end-preserved-in_ok-answer_unit : goal.loop-end-preserved-in_ok-answer_unit
loop-end-preserved-in_ok-answer_unit g c =
    let whole = subst (EndsLine c.end_line.new.self.bytes.items c.end_line.new.self.wanted) c.if-branch.true c.in_ok-end_line.ensures.whole in
    record {
      so_far = one_more _ _ _ _ _ c.end_line.new.self.bytes.items c.deref.result.now c.clear.new.self.items _ c.end_line.new.self.wanted _ _ _ _ _ c.in_ok-answer_unit.ensures.keeper_clean
          c.in-Some.ensures.some c.in_ok-end_line.ensures.bytes whole.0 c.deref.ensures.value c.clear.ensures.items whole.1 c.loop-end.invariant.so_far c.in_ok-answer_unit.ensures.one;
      sink_faults = omega (arith, c.loop-end.invariant.sink_faults, c.in_ok-answer_unit.ensures.sink_cause.later);
      keeper_faults = omega (arith, c.loop-end.invariant.keeper_faults, c.in_ok-answer_unit.ensures.keeper_faults);
      sink_aside = c.in_ok-answer_unit.ensures.sink_aside ∙ c.loop-end.invariant.sink_aside;
      keeper_clean = λ x. c.loop-end.invariant.keeper_clean (c.in_ok-answer_unit.ensures.keeper_clean x);
      keeper_path = c.in_ok-answer_unit.ensures.keeper_path ∙ c.loop-end.invariant.keeper_path;
    }

pub returns-clause-units : goal.returns-clause-units
returns-clause-units g c =
    all_answered c.wanted_is_one.ensures _ _ c.loop-end.rest.now _ _ _ _ _ (c.in_default.ensures.none refl) c.in_ok-extend_from_slice.ensures.items c.loop-end.invariant.so_far

pub returns-clause-unfinished : goal.returns-clause-unfinished
returns-clause-unfinished g c =
    λ _. still_unfinished _ _ c.loop-end.rest.now _ _ _ _ _ (c.in_default.ensures.none refl) c.in_ok-extend_from_slice.ensures.items c.loop-end.invariant.so_far

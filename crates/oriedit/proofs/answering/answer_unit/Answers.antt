use Rattle.std.proofs.Common.{rules, [], sym, subst, ap, ◌∙◌}
use Rattle.std.specs.Prelude.{Ok, Err, None}
use Rattle.std.proofs.lemmas.Result.{err_from_is_err_and}
use Rattle.ports.specs.Stops.{Refuses}
use Rattle.commands.specs.Lines.{ReadsCommand}
use Rattle.commands.specs.ReplyText.{bad_text}
use Rattle.oriedit.specs.Answering.{AnswersOne}
use Rattle.oriedit.proofs.Answered.{unit_answered, other_answered, other_cut_off, bad_gained, bad_part, gained_none, wrong, silent, nothing_yet}
use Rattle.oriedit.proofs.answering.answer_unit.Goals as goal

pub returns-in_err-write_bad-in-Err-Why-clause-one : goal.returns-in_err-write_bad-in-Err-Why-clause-one
returns-in_err-write_bad-in-Err-Why-clause-one g c =
    let p = err_from_is_err_and c.from_residual.result c.from_residual.ensures.1 in
    let read = subst (Refuses (ReadsCommand c.args.unit.now)) c.in-Err-Why.field-0-is c.in-Err-Why.ensures in
    subst (AnswersOne c.args.unit.now _ _ _) (sym (p.1 ∙ ap Err p.2))
    (other_cut_off c.args.unit.now (bad_text c.in-Err-Why.bad) (Err c.in-Err-Why.bad) _ _ _ _ _ read (wrong c.in-Err-Why.bad)
    (bad_part _ _ _ _ c.in-Err-Why.bad _ c.in_err-write_bad-in-Err-Why.ensures.bytes (search rules)))

pub returns-in-Ok-None-clause-one : goal.returns-in-Ok-None-clause-one
returns-in-Ok-None-clause-one g c =
    other_answered c.args.unit.now [] (Ok None) _ _ _ _ _
    (subst (λ o. ReadsCommand c.args.unit.now (Ok o)) c.in-Ok-None.field-0-is c.in-Ok-None.ensures) silent (gained_none _)

pub returns-in-Ok-Some-clause-one : goal.returns-in-Ok-Some-clause-one
returns-in-Ok-Some-clause-one g c =
    unit_answered c.args.unit.now c.in-Ok-Some.command _ _ _ c.answer_command.result
    (subst (λ o. ReadsCommand c.args.unit.now (Ok o)) c.in-Ok-Some.field-0-is c.in-Ok-Some.ensures) c.answer_command.ensures.replies

pub returns-in_ok-write_bad-in-Err-Why-clause-one : goal.returns-in_ok-write_bad-in-Err-Why-clause-one
returns-in_ok-write_bad-in-Err-Why-clause-one g c =
    let read = subst (Refuses (ReadsCommand c.args.unit.now)) c.in-Err-Why.field-0-is c.in-Err-Why.ensures in
    other_answered c.args.unit.now (bad_text c.in-Err-Why.bad) (Err c.in-Err-Why.bad) _ _ _ _ _ read (wrong c.in-Err-Why.bad)
    (bad_gained _ _ _ _ c.in-Err-Why.bad _ c.in_ok-write_bad-in-Err-Why.ensures.bytes (search rules))

pub returns-in-Err-NoMemory-clause-one : goal.returns-in-Err-NoMemory-clause-one
returns-in-Err-NoMemory-clause-one g c = nothing_yet _ _

use Rattle.std.proofs.Common.{rules, inl, inr, refl, subst}
use Rattle.std.specs.Prelude.{Ok, Err}
use Rattle.ports.specs.Stops.{Refuses}
use Rattle.commands.specs.Lines.{ReadsCommand}
use Rattle.oriedit.specs.HttpAnswers.{wrong_answer, no_memory_answer}
use Rattle.oriedit.proofs.OneConnection.{is_kept, wrong_put, command_due}
use Rattle.oriedit.proofs.connection.answer_text.Goals as goal

pub returns-in-Ok-Some-clause-due : goal.returns-in-Ok-Some-clause-due
returns-in-Ok-Some-clause-due g c =
    command_due c.args.text.now c.in-Ok-Some.command _ _ _ _ _ c.answer_command.result
    (subst (λ o. ReadsCommand c.args.text.now (Ok o)) c.in-Ok-Some.field-0-is c.in-Ok-Some.ensures) c.answer_command.ensures.due

pub returns-in-Err-Why-clause-due : goal.returns-in-Err-Why-clause-due
returns-in-Err-Why-clause-due g c = (
  wrong_answer c.in-Err-Why.bad,
  inl (Err c.in-Err-Why.bad, subst (Refuses (ReadsCommand c.args.text.now)) c.in-Err-Why.field-0-is c.in-Err-Why.ensures, (refl, is_kept _ _ _)),
  wrong_put _ _ _ c.in-Err-Why.bad c.put_wrong.result c.put_wrong.ensures.bytes (search rules),
)

pub returns-in-Ok-None-clause-due : goal.returns-in-Ok-None-clause-due
returns-in-Ok-None-clause-due g c = (no_memory_answer, inr (refl, is_kept _ _ _), c.put_no_memory.ensures.bytes)

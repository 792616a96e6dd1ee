use Rattle.std.proofs.Common.{inl, inr, refl}
use Rattle.oriedit.specs.HttpAnswers.{reply_answer, no_memory_answer}
use Rattle.oriedit.proofs.OneConnection.{is_done, kept_still}
use Rattle.oriedit.proofs.connection.answer_command.Goals as goal

pub returns-in-Ok-clause-due : goal.returns-in-Ok-clause-due
returns-in-Ok-clause-due g c = (
  reply_answer c.args.command.now c.in-Ok.reply,
  inl (c.in-Ok.reply, refl, is_done c.args.command.now c.in-Ok.reply _ _ _ _ _ c.in-Ok.ensures.told c.in-Ok.ensures.cause),
  c.put_reply.ensures.bytes,
)

pub returns-in-Err-clause-due : goal.returns-in-Err-clause-due
returns-in-Err-clause-due g c = (
  no_memory_answer,
  inr (refl, kept_still c.args.command.now _ _ _ _ _ _ c.in-Err.ensures.told c.in-Err.ensures.cause.later),
  c.put_no_memory.ensures.bytes,
)

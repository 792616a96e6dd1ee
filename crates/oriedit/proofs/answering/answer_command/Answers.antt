use Rattle.std.proofs.Common.{sym, subst, ap, ◌∙◌}
use Rattle.std.specs.Prelude.{Err}
use Rattle.commands.specs.ReplyText.{reply_text}
use Rattle.oriedit.specs.Answering.{RepliesTo}
use Rattle.oriedit.proofs.Answered.{replied, put_gained, put_part}
use Rattle.std.proofs.lemmas.Result.{err_from_is_err_and}
use Rattle.oriedit.proofs.answering.answer_command.Goals as goal

pub returns-in_err-write_reply-clause-replies : goal.returns-in_err-write_reply-clause-replies
returns-in_err-write_reply-clause-replies g c =
    let p = err_from_is_err_and c.from_residual-in_err-write_reply.result c.from_residual-in_err-write_reply.ensures.1 in
    let part = put_part _ _ _ (reply_text c.in_ok-reply.reply) _ c.in_err-write_reply.ensures.bytes in
    subst (RepliesTo c.args.command.now _ _ _) (sym (p.1 ∙ ap Err p.2)) (
      reply_text c.in_ok-reply.reply,
      part.part,
      part.front,
      replied c.args.command.now c.in_ok-reply.reply _ _ _ _ _ _ _ part.part c.in_ok-reply.ensures.told c.in_ok-reply.ensures.cause part.gained,
    )

pub returns-clause-replies : goal.returns-clause-replies
returns-clause-replies g c = (
  reply_text c.in_ok-reply.reply,
  replied c.args.command.now c.in_ok-reply.reply _ _ _ _ _ _ _ _ c.in_ok-reply.ensures.told c.in_ok-reply.ensures.cause
      (put_gained _ _ _ _ _ c.in_ok-write_reply.ensures.bytes),
)

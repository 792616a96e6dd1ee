use Rattle.std.proofs.Common.{length, sym, subst}
use Rattle.std.specs.Prelude.{None, Ok, Err}
use Rattle.api.specs.HeadText.{head_text}
use Rattle.api.specs.Statuses.{IsStatus}
use Rattle.commands.specs.ReplyText.{body_text}
use Rattle.oriedit.specs.HttpAnswers.{reply_status, is_json}
use Rattle.oriedit.proofs.KnownStatuses.{reply_known}
use Rattle.oriedit.proofs.TwoPuts.{put_both, put_failed, head_is}
use Rattle.oriedit.proofs.answers.put_reply.Goals as goal

pub write_head-requires : goal.write_head-requires
write_head-requires g c =
    subst IsStatus (sym c.status_of-status.ensures) (reply_known c.args.command.now c.args.reply.now)

pub returns-in_err-write_head-clause-bytes : goal.returns-in_err-write_head-clause-bytes
returns-in_err-write_head-clause-bytes g c =
    put_failed _ _ (head_text (reply_status c.args.command.now c.args.reply.now) (is_json c.args.command.now c.args.reply.now) (length (body_text c.args.reply.now)) None) (body_text c.args.reply.now) _ _
    (head_is _ _ c.status_of-status.result _ c.body_len.result _ c.holds_json.result _ None (Err c.in_err-write_head.field-0.0) c.status_of-status.ensures c.holds_json.ensures c.body_len.ensures c.in_err-write_head.ensures.bytes) c.from_residual.ensures.0

pub returns-clause-bytes : goal.returns-clause-bytes
returns-clause-bytes g c =
    put_both _ (g.W.Sink.held c.args.sink.now) (g.W.Sink.held c.write_head.new.sink) (g.W.Sink.held c.write_body.new.sink) (head_text (reply_status c.args.command.now c.args.reply.now) (is_json c.args.command.now c.args.reply.now) (length (body_text c.args.reply.now)) None) (body_text c.args.reply.now) c.in_ok-write_head.field-0 c.write_body.result
    (head_is _ _ c.status_of-status.result _ c.body_len.result _ c.holds_json.result _ None (Ok c.in_ok-write_head.field-0) c.status_of-status.ensures c.holds_json.ensures c.body_len.ensures c.in_ok-write_head.ensures.bytes)
    c.write_body.ensures.bytes

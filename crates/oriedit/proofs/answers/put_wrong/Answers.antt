use Rattle.std.proofs.Common.{refl, false, length}
use Rattle.std.specs.Prelude.{None, Ok, Err}
use Rattle.api.specs.HeadText.{head_text}
use Rattle.commands.specs.ReplyText.{bad_text}
use Rattle.oriedit.proofs.TwoPuts.{put_both, put_failed, head_is}
use Rattle.oriedit.proofs.answers.put_wrong.Goals as goal

pub returns-in_err-write_head-clause-bytes : goal.returns-in_err-write_head-clause-bytes
returns-in_err-write_head-clause-bytes g c =
    put_failed _ _ (head_text 400 false (length (bad_text c.args.bad.now)) None) (bad_text c.args.bad.now) _ _
    (head_is _ _ 400 400 c.bad_len.result _ false false None (Err c.in_err-write_head.field-0.0) refl refl c.bad_len.ensures c.in_err-write_head.ensures.bytes) c.from_residual.ensures.0

pub returns-clause-bytes : goal.returns-clause-bytes
returns-clause-bytes g c =
    put_both _ _ _ _ (head_text 400 false (length (bad_text c.args.bad.now)) None) (bad_text c.args.bad.now) c.in_ok-write_head.field-0 c.write_bad.result
    (head_is _ _ 400 400 c.bad_len.result _ false false None (Ok c.in_ok-write_head.field-0) refl refl c.bad_len.ensures c.in_ok-write_head.ensures.bytes) c.write_bad.ensures.bytes

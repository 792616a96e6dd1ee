use Rattle.std.proofs.Common.{refl, false, length, ap, sym, subst, ◌∙◌}
use Rattle.std.specs.Prelude.{Ok, Err, option_map}
use Rattle.ports.specs.Streams.{Puts}
use Rattle.api.specs.HeadText.{head_text}
use Rattle.api.specs.Statuses.{IsStatus, status_of, bad_text}
use Rattle.api.proofs.Callers.{status_is_known}
use Rattle.oriedit.proofs.TwoPuts.{put_both, put_failed, head_is}
use Rattle.oriedit.proofs.answers.put_refused.Goals as goal

pub write_head-requires : goal.write_head-requires
write_head-requires g c = subst IsStatus (sym c.status.ensures) (status_is_known c.args.bad.now.why)

pub returns-in_err-write_head-clause-bytes : goal.returns-in_err-write_head-clause-bytes
returns-in_err-write_head-clause-bytes g c =
    let why = c.args.bad.now.why in
    let allow = option_map (λ m. m.now) c.args.bad.now.allow in
    put_failed _ _ (head_text (status_of why) false (length (bad_text why)) allow) (bad_text why) _ _
    (head_is _ _ c.status.result (status_of why) (length c.bad_text-body.result.now) _ false false allow (Err c.in_err-write_head.field-0.0) c.status.ensures refl (ap length c.bad_text-body.ensures) c.in_err-write_head.ensures.bytes) c.from_residual.ensures.0

pub returns-clause-bytes : goal.returns-clause-bytes
returns-clause-bytes g c =
    let why = c.args.bad.now.why in
    let allow = option_map (λ m. m.now) c.args.bad.now.allow in
    put_both _ (g.W.Sink.held c.args.sink.now) (g.W.Sink.held c.write_head.new.sink) (g.W.Sink.held c.put.new.self) (head_text (status_of why) false (length (bad_text why)) allow) (bad_text why) c.in_ok-write_head.field-0 c.put.result
    (head_is _ _ c.status.result (status_of why) (length c.bad_text-body.result.now) _ false false allow (Ok c.in_ok-write_head.field-0) c.status.ensures refl (ap length c.bad_text-body.ensures) c.in_ok-write_head.ensures.bytes)
    (subst (λ t. Puts (g.W.Sink.held c.write_head.new.sink) (g.W.Sink.held c.put.new.self) t c.put.result) (c.as_bytes.ensures.value ∙ c.bad_text-body.ensures) c.put.ensures.bytes)

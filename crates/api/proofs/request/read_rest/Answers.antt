use Rattle.std.proofs.Common.{ap, subst, Err}
use Rattle.api.specs.Plans.{AsksBy}
use Rattle.api.proofs.Answering.{head_answer, plan_answer, body_answer, last_answer, head_some, tail_is}
use Rattle.api.specs.Stages.{ReadsBody, IsWhole}
use Rattle.api.proofs.request.read_rest.Goals as goal

pub returns-in-Err-clause-reads : goal.returns-in-Err-clause-reads
returns-in-Err-clause-reads g c =
    head_answer c.args.bytes.now (head_some c.args.bytes.now c.args.spans.now c.args.parts c.requires.head) c.args.parts.len
    (g.S.Source.left c.args.source.now) c.in-Err.why (Err c.refused.result) c.in-Err.ensures (ap Err c.refused.ensures)

pub returns-in_err-plan-clause-reads : goal.returns-in_err-plan-clause-reads
returns-in_err-plan-clause-reads g c =
    plan_answer c.args.bytes.now (head_some c.args.bytes.now c.args.spans.now c.args.parts c.requires.head) c.args.parts.len c.in-Ok.head c.in-Ok.ensures
    (g.S.Source.left c.args.source.now) c.in_err-plan.field-0.0 c.from_residual.result c.in_err-plan.ensures c.from_residual.ensures.1

pub returns-in_err-body-clause-reads : goal.returns-in_err-body-clause-reads
returns-in_err-body-clause-reads g c =
    body_answer c.args.bytes.now (head_some c.args.bytes.now c.args.spans.now c.args.parts c.requires.head) c.args.parts.len c.in-Ok.head c.in-Ok.ensures c.in_ok-plan.plan c.in_ok-plan.ensures
    (g.S.Source.left c.args.source.now) (g.S.Source.left c.read_body.new.source) c.in_err-body.field-0.0 c.from_residual-in_err-body.result
    (subst (λ b. ReadsBody (g.S.Source.left c.args.source.now) (g.S.Source.left c.read_body.new.source) b c.in_ok-plan.plan.length (Err c.in_err-body.field-0.0)) (tail_is c.args.bytes.now c.args.parts.len) c.in_err-body.ensures.reads) c.from_residual-in_err-body.ensures.1

pub returns-clause-reads : goal.returns-clause-reads
returns-clause-reads g c =
    last_answer c.args.bytes.now (head_some c.args.bytes.now c.args.spans.now c.args.parts c.requires.head) c.args.parts.len c.in-Ok.head c.in-Ok.ensures c.in_ok-plan.plan c.in_ok-plan.ensures
    (g.S.Source.left c.args.source.now) (g.S.Source.left c.read_body.new.source) c.in_ok-body.body
    (subst (λ b. IsWhole (g.S.Source.left c.args.source.now) (g.S.Source.left c.read_body.new.source) b c.in_ok-plan.plan.length c.in_ok-body.body) (tail_is c.args.bytes.now c.args.parts.len) c.in_ok-body.ensures.reads) c.asked.result
    (subst (λ b. AsksBy c.in_ok-plan.plan b c.asked.result) c.as_slice.ensures c.asked.ensures)

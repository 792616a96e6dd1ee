use Rattle.api.proofs.Bodies.{body_fails}
use Rattle.api.proofs.body.read_body.Goals as goal

pub returns-in_err-count-clause-reads : goal.returns-in_err-count-clause-reads
returns-in_err-count-clause-reads g c =
    body_fails (g.S.Source.left c.args.source.now) (g.S.Source.left c.loop-body.source) (g.S.Source.left c.take_more.new.source) c.args.behind.now c.args.length
    c.loop-body.body.items c.in_err-count.field-0.0 c.from_residual-in_err-count.result c.loop-body.invariant.filled c.in_err-count.ensures.takes c.from_residual-in_err-count.ensures.1

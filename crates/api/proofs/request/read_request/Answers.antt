use Rattle.std.proofs.Common.{subst}
use Rattle.api.specs.Plans.{ReadsOn}
use Rattle.api.proofs.Answering.{behind_head}
use Rattle.api.proofs.request.read_request.Goals as goal

pub returns-clause-reads : goal.returns-clause-reads
returns-clause-reads g c =
    behind_head (g.S.Source.left c.args.source.now) (g.S.Source.left c.read_head.new.source) (g.S.Source.left c.read_rest.new.source) c.read_head.new.bytes.items c.read_rest.result
    c.in_ok-parts.ensures.reads.0
    (subst (λ b. ReadsOn b (g.S.Source.left c.read_head.new.source) (g.S.Source.left c.read_rest.new.source) c.read_rest.result) c.as_slice.ensures.value c.read_rest.ensures.reads)

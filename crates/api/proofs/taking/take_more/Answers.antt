use Rattle.std.proofs.Common.{take}
use Rattle.ports.proofs.callers.Taken.{take_gave}
use Rattle.api.proofs.Pieces.{no_memory}
use Rattle.api.proofs.taking.take_more.Goals as goal

pub returns-in_err-extend_from_slice-in-Ok-clause-takes :
    goal.returns-in_err-extend_from_slice-in-Ok-clause-takes
returns-in_err-extend_from_slice-in-Ok-clause-takes g c =
    no_memory (g.S.Source.left c.args.source.now) (g.S.Source.left c.take.new.self) c.args.bytes.now.items c.extend_from_slice.new.self.items
    (take c.in-Ok.count c.take.new.buf) c.args.most c.from_residual.result (take_gave _ _ _ _ _ _ c.in-Ok.ensures.bytes) c.from_residual.ensures.1

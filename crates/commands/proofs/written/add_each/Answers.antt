use Rattle.commands.proofs.Blocks.{broken_item}
use Rattle.commands.proofs.written.add_each.Goals as goal

pub returns-in_err-add_to-clause-bytes : goal.returns-in_err-add_to-clause-bytes
returns-in_err-add_to-clause-bytes g c =
    broken_item g.T.Written.text (g.W.Sink.held c.args.sink.now) c.args.block.now.items (g.W.Sink.held c.loop-item.sink) c.loop-item.block.items _ _ c.args.items.now c.loop-item.item-index c.item-item.result c.from_residual.result c.loop-item-test.true c.item-item.is c.loop-item.invariant.bytes c.in_err-add_to.ensures.bytes c.from_residual.ensures.0

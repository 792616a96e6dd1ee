use Rattle.std.proofs.Common.{List, ℕ, Bor, []}
use Rattle.commands.proofs.Blocks.{broken_in}
use Rattle.commands.proofs.block.add_all.Goals as goal

pub returns-in_err-add-clause-bytes : goal.returns-in_err-add-clause-bytes
returns-in_err-add-clause-bytes g c =
    broken_in (λ (piece : Bor (List ℕ)). piece.now) (g.W.Sink.held c.args.sink.now) c.args.block.now.items (g.W.Sink.held c.loop-piece.sink) c.loop-piece.block.items _ _ c.args.pieces.now c.loop-piece.piece-index (record { ref_ptr = (0, 0); now = [] }) c.from_residual.result c.loop-piece-test.true c.loop-piece.invariant.bytes c.in_err-add.ensures.bytes c.from_residual.ensures.0

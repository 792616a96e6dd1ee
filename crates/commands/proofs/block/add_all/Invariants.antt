use Rattle.std.proofs.Common.{◌≡◌, ◌≤◌, take}
use Rattle.commands.specs.Blocks.{Added, joined}
use Rattle.commands.proofs.block.add_all.Given as goal

abbrev pub invariant-loop-piece : goal.invariant-loop-piece
invariant-loop-piece g l = record {
  bytes : Added (g.W.Sink.held l.fn.sink) l.fn.block.items (g.W.Sink.held l.sink) l.block.items (joined (take l.piece-index l.pieces));
  later : g.W.Sink.faults l.fn.sink ≤ g.W.Sink.faults l.sink;
  aside : g.W.Sink.aside l.sink ≡ g.W.Sink.aside l.fn.sink;
}

use Rattle.std.proofs.Common.{◌≡◌, ◌≤◌, take}
use Rattle.std.specs.Prelude.{flat_map}
use Rattle.commands.specs.Blocks.{Added}
use Rattle.commands.proofs.written.add_each.Given as goal

abbrev pub invariant-loop-item : goal.invariant-loop-item
invariant-loop-item g l = record {
  bytes : Added (g.W.Sink.held l.fn.sink) l.fn.block.items (g.W.Sink.held l.sink) l.block.items (flat_map g.T.Written.text (take l.item-index l.items));
  later : g.W.Sink.faults l.fn.sink ≤ g.W.Sink.faults l.sink;
  aside : g.W.Sink.aside l.sink ≡ g.W.Sink.aside l.fn.sink;
}

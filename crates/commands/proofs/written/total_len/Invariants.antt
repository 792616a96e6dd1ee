use Rattle.std.proofs.Common.{◌≡◌, ◌≤◌, ◌*◌, take, length}
use Rattle.std.specs.Prelude.{flat_map}
use Rattle.commands.proofs.written.total_len.Given as goal

abbrev pub invariant-loop-item : goal.invariant-loop-item
invariant-loop-item g l = record {
  len : l.total ≡ length (flat_map g.T.Written.text (take l.item-index l.items));
  small : l.total ≤ 1000 * l.item-index;
}

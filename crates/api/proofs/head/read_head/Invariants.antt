use Rattle.std.proofs.Common.{◌≡◌, ◌≤◌, ◌-◌, ◌⊎◌, [], length}
use Rattle.ports.specs.Taken.{Gave}
use Rattle.api.specs.Stages.{IsOpen}
use Rattle.api.proofs.head.read_head.Given as goal

abbrev pub invariant-loop-bytes : goal.invariant-loop-bytes
invariant-loop-bytes g l = record {
  gave : Gave (g.S.Source.left l.fn.source) (g.S.Source.left l.source) l.bytes.items;
  within : length l.bytes.items ≤ 16384;
  open_yet : (l.bytes.items ≡ []) ⊎ IsOpen l.bytes.items;
  room : length l.spans ≡ 5462;
  later : g.S.Source.faults l.fn.source ≤ g.S.Source.faults l.source;
  aside : g.S.Source.aside l.source ≡ g.S.Source.aside l.fn.source;
}

abbrev pub decreases-loop-bytes : goal.decreases-loop-bytes
decreases-loop-bytes g l = 16384 - length l.bytes.items

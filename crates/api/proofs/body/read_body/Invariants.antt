use Rattle.std.proofs.Common.{◌≡◌, ◌≤◌, ◌-◌, length}
use Rattle.api.specs.Stages.{IsFilled}
use Rattle.api.proofs.body.read_body.Given as goal

abbrev pub invariant-loop-body : goal.invariant-loop-body
invariant-loop-body g l = record {
  filled : IsFilled (g.S.Source.left l.fn.source) (g.S.Source.left l.source) l.behind l.length l.body.items;
  later : g.S.Source.faults l.fn.source ≤ g.S.Source.faults l.source;
  aside : g.S.Source.aside l.source ≡ g.S.Source.aside l.fn.source;
}

abbrev pub decreases-loop-body : goal.decreases-loop-body
decreases-loop-body g l = l.length - length l.body.items

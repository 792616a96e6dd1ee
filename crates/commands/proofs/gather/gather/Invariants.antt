use Rattle.std.proofs.Common.{◌-◌, ◌≤◌}
use Rattle.commands.specs.Gathering.{Gathers}
use Rattle.commands.proofs.gather.gather.Given as goal

abbrev pub invariant-loop-lines : goal.invariant-loop-lines
invariant-loop-lines l = record {
  gathers : Gathers l.fn.after l.text.items l.lines l.is_short l.rest;
  most : l.lines ≤ l.fn.count;
}

abbrev pub decreases-loop-lines : goal.decreases-loop-lines
decreases-loop-lines l = l.fn.count - l.lines

use Rattle.std.proofs.Common.{length}
use Rattle.std.specs.Prelude.{◌↔◌}
use Rattle.sheet.specs.Pattern.{IsPattern}
use Rattle.projects.specs.Projects.{IsPast}
use Rattle.projects.proofs.project.is_past.Given as goal

abbrev pub invariant-loop-delta : goal.invariant-loop-delta
invariant-loop-delta l = record {
  pattern : IsPattern l.now;
  same : IsPast l.history.past l.pattern ↔ IsPast l.rest.past l.now;
}

abbrev pub decreases-loop-delta : goal.decreases-loop-delta
decreases-loop-delta l = length l.rest.past

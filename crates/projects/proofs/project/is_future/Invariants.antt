use Rattle.std.proofs.Common.{length}
use Rattle.std.specs.Prelude.{◌↔◌}
use Rattle.projects.specs.Projects.{IsFuture}
use Rattle.projects.proofs.project.is_future.Given as goal

abbrev pub invariant-loop-delta : goal.invariant-loop-delta
invariant-loop-delta l = IsFuture l.pattern l.history.future ↔ IsFuture l.now l.rest.future

abbrev pub decreases-loop-delta : goal.decreases-loop-delta
decreases-loop-delta l = length l.rest.future

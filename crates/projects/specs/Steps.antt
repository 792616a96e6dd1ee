-- Steps of a project: a delta that is taken, and the undoing and redoing of one.
use Rattle.std.specs.Prelude.{◌≡◌, ◌+◌, ◌<◌, length}
use Rattle.sheet.specs.Pattern.{ExactPattern}
use Rattle.pattern.specs.Deltas.{Fits, Leads, inverse_of}
use Rattle.pattern.specs.declared.delta.Delta.{Delta}
use Rattle.history.specs.Histories.{pushed, IsBack, IsLast, IsFirst}
use Rattle.projects.specs.Projects.{ExactProject}
use Rattle.projects.specs.declared.step.Step.{Step}
use Rattle.projects.specs.declared.step.Step.TheVariants.{Do, Undo, Redo}

-- a delta fits the pattern, an undo needs a past, and a redo a future
abbrev pub StepFits : ExactProject → Step → Type 0
StepFits project (Do delta) = Fits project.pattern delta
StepFits project Undo = 0 < length project.history.past
StepFits project Redo = 0 < length project.history.future

-- The pattern is the one that the delta leads to, and the delta is the last one of the past.
pub record Done (before : ExactProject) (delta : Delta) (after : ExactProject) : Type 0 where
  pub pattern : Leads before.pattern delta after.pattern
  pub history : after.history ≡ pushed before.history delta

-- The last delta of the past is taken back, and is the next one of the future.
pub record Undone (before after : ExactProject) : Type 0 where
  pub back : IsBack before.history after.history
  pub pattern : Leads before.pattern (inverse_of back.delta) after.pattern

-- The next delta of the future is taken again, and is the last one of the past.
pub record Redone (before after : ExactProject) : Type 0 where
  pub forth : IsBack after.history before.history
  pub pattern : Leads before.pattern forth.delta after.pattern

-- what a step changes beside the rev
abbrev pub StepLeads : ExactProject → Step → ExactProject → Type 0
StepLeads before (Do delta) after = Done before delta after
StepLeads before Undo after = Undone before after
StepLeads before Redo after = Redone before after

-- The project after a step: the rev is one more.
pub record Stepped (before : ExactProject) (step : Step) (after : ExactProject) : Type 0 where
  pub rev : after.rev ≡ before.rev + 1
  pub leads : StepLeads before step after

-- the pattern to which the last delta of the past leads back
abbrev pub LeadsBack : ExactProject → ExactPattern → Type 0
LeadsBack project earlier = (delta : Delta) × IsLast project.history.past delta
    × Leads project.pattern (inverse_of delta) earlier

-- the pattern to which the next delta of the future leads
abbrev pub LeadsForth : ExactProject → ExactPattern → Type 0
LeadsForth project later = (delta : Delta) × IsFirst project.history.future delta
    × Leads project.pattern delta later

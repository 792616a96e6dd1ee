-- What a change makes of a project, by its deltas.
use Rattle.std.specs.Prelude.{◌≡◌, ◌<◌, ◌+◌, ◌⊎◌, [], length, ℕ, Option, Ok, Err}
use Rattle.sheet.specs.Pattern.{ExactPattern}
use Rattle.pattern.specs.Deltas.{Fits, Leads}
use Rattle.pattern.specs.declared.delta.Delta.{Delta}
use Rattle.subdivide.specs.Live.{IsCut}
use Rattle.edits.specs.EditOf.{EditOf}
use Rattle.edits.specs.declared.edit.Edit.{Edit}
use Rattle.edits.specs.declared.edit.Edit.TheVariants as edit
use Rattle.edits.specs.declared.refusal.EditBad.{EditBad}
use Rattle.cpfile.specs.CpReading.{ReadsCp}
use Rattle.cpfile.specs.declared.bad.CpBad.{CpBad}
use Rattle.cpfile.specs.declared.drawn.CpLines.{CpLines}
use Rattle.dialogue.specs.declared.cause.Cause.{Cause}
use Rattle.dialogue.specs.declared.cause.Cause.TheVariants as cause
use Rattle.dialogue.specs.declared.command.Change.{Change}
use Rattle.dialogue.specs.declared.command.Change.TheVariants as change
use Rattle.dialogue.specs.declared.reply.Reply.{Reply}
use Rattle.dialogue.specs.declared.reply.Reply.TheVariants as reply
use Rattle.projects.specs.Projects.{ExactProject, last_rev}
use Rattle.projects.specs.Steps.{StepFits, Stepped, LeadsBack, LeadsForth}
use Rattle.projects.specs.Entries.{Entry, StandsFor}
use Rattle.projects.specs.Machine.{Made, Changed}
use Rattle.projects.specs.Ends.{IsUncut}
use Rattle.projects.specs.declared.step.Step.{Step}
use Rattle.projects.specs.declared.step.Step.TheVariants.{Do, Undo, Redo}
use Rattle.projects.specs.declared.changes.Ready.{Ready}

-- the edit makes this step of the project, which leads to this pattern
abbrev pub Plans : ExactProject → Edit → Step → ExactPattern → Type 0
Plans p edit step new =
    (d : Delta) × (step ≡ Do d) × Fits p.pattern d × Leads p.pattern d new × EditOf p.pattern edit (Ok new)

-- and that pattern is cut
abbrev pub PlansOn : ExactProject → Edit → Step → ExactPattern → Type 0
PlansOn p edit step new = Plans p edit step new × IsCut new

-- the edit is refused
abbrev pub StopsEdit : ExactProject → Edit → Cause → Type 0
StopsEdit p edit why = (bad : EditBad) × EditOf p.pattern edit (Err bad) × (why ≡ cause.Edit bad)

-- or since the pattern to which it leads is not cut
abbrev pub RefusesEdit : ExactProject → Edit → Cause → Type 0
RefusesEdit p edit why =
    StopsEdit p edit why ⊎ ((step : Step) × (new : ExactPattern) × Plans p edit step new × IsUncut new why)

-- the change makes this step of the project, which leads to this pattern, and is answered so
abbrev pub StepsTo : ExactProject → Change → Ready → ExactPattern → Type 0
StepsTo p (change.Edit edit) ready new = Plans p edit ready.step new × (ready.reply ≡ reply.Done (p.rev + 1))
StepsTo p (change.Import lattice text) ready new =
    (read : CpLines) × ReadsCp lattice p.pattern.sheet text (Ok read)
    × Plans p (edit.Lines read.lines) ready.step new
    × (ready.reply ≡ reply.Imported (p.rev + 1) (length read.lines) read.dropped)
StepsTo p change.Undo ready new =
    (ready.step ≡ Undo) × LeadsBack p new × (ready.reply ≡ reply.Done (p.rev + 1))
StepsTo p change.Redo ready new =
    (ready.step ≡ Redo) × LeadsForth p new × (ready.reply ≡ reply.Done (p.rev + 1))

-- the change makes a step to the pattern that comes with it, which is cut
abbrev pub StepsOn : ExactProject → Change → Ready → Type 0
StepsOn p c ready = StepsTo p c ready ready.next × IsCut ready.next

-- the change is refused before it leads to a pattern
abbrev pub Stops : ExactProject → Change → Cause → Type 0
Stops p (change.Edit edit) why = StopsEdit p edit why
Stops p (change.Import lattice text) why =
    ((bad : CpBad) × ReadsCp lattice p.pattern.sheet text (Err bad) × (why ≡ cause.Cp bad))
    ⊎ ((read : CpLines) × ReadsCp lattice p.pattern.sheet text (Ok read)
    × StopsEdit p (edit.Lines read.lines) why)
Stops p change.Undo why = (p.history.past ≡ []) × (why ≡ cause.NothingToUndo)
Stops p change.Redo why = (p.history.future ≡ []) × (why ≡ cause.NothingToRedo)

-- or since the pattern to which it leads is not cut
abbrev pub Refuses : ExactProject → Change → Cause → Type 0
Refuses p c why =
    Stops p c why ⊎ ((ready : Ready) × (new : ExactPattern) × StepsTo p c ready new × IsUncut new why)

-- the delta leads to this pattern, which is cut, or to one that is not
abbrev pub LeadsToCut : ExactPattern → Delta → ExactPattern → Type 0
LeadsToCut old delta new = Leads old delta new × IsCut new

abbrev pub IsUncutAfter : ExactPattern → Delta → Cause → Type 0
IsUncutAfter old delta why = (new : ExactPattern) → Leads old delta new → IsUncut new why

-- the reply says that a change is made
abbrev pub SaysDone : Reply → Type 0
SaysDone (reply.Done rev) = Unit {0}
SaysDone (reply.Imported rev drawn dropped) = Unit {0}
SaysDone r = ⊥

-- The step makes of the project what the change makes of its entry, and the reply is that of the change.
pub record MakesStep (p : ExactProject) (given : Option ℕ) (c : Change) (ready : Ready) : Type 0 where
  pub rev : p.rev < last_rev
  pub fits : StepFits p ready.step
  pub says : SaysDone ready.reply
  pub makes : (e : Entry) → StandsFor p e
      → (next : Made) × Changed e given c (Ok next) × (next.reply ≡ ready.reply)
      × ((after : ExactProject) → Stepped p ready.step after → StandsFor after next.entry)

-- the change of the entry is refused with the cause
abbrev pub RefusesChange : ExactProject → Option ℕ → Change → Cause → Type 0
RefusesChange p given c why = (e : Entry) → StandsFor p e → Changed e given c (Err why)

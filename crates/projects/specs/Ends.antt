-- How a command ends before it is done.
use Rattle.std.specs.Prelude.{◌≡◌, Result, Ok, Err}
use Rattle.sheet.specs.Pattern.{ExactPattern}
use Rattle.ports.specs.declared.stop.Stop.{Stop}
use Rattle.ports.specs.declared.stop.Stop.TheVariants as stop
use Rattle.subdivide.specs.CutAnswers.{IsCutAnswer}
use Rattle.subdivide.specs.declared.edge.CutBad.{CutBad}
use Rattle.edits.specs.declared.refusal.EditBad.{EditBad}
use Rattle.cpfile.specs.declared.bad.CpBad.{CpBad}
use Rattle.dialogue.specs.declared.cause.Cause.{Cause}
use Rattle.dialogue.specs.declared.cause.Cause.TheVariants as cause
use Rattle.projects.specs.declared.keeper.KeeperEnd.{KeeperEnd}
use Rattle.projects.specs.declared.keeper.KeeperEnd.TheVariants as keeper
use Rattle.projects.specs.declared.early.Early.{Early}
use Rattle.projects.specs.declared.early.Early.TheVariants as early

-- the end where the keeper, the cutting, the edit, or the reading of a CP text gives no answer
abbrev pub of_keeper : KeeperEnd → Early
of_keeper keeper.Failed = early.KeeperFailed
of_keeper keeper.NoMemory = early.NoMemory

abbrev pub of_cut : Stop CutBad → Early
of_cut stop.NoMemory = early.NoMemory
of_cut (stop.Why bad) = early.Refused (cause.Cut bad)

abbrev pub of_edit : Stop EditBad → Early
of_edit stop.NoMemory = early.NoMemory
of_edit (stop.Why bad) = early.Refused (cause.Edit bad)

abbrev pub of_cp : Stop CpBad → Early
of_cp stop.NoMemory = early.NoMemory
of_cp (stop.Why bad) = early.Refused (cause.Cp bad)

-- a refusal with a cause of this kind; want of memory is free, and no keeper is asked
abbrev pub EndsBy : (Cause → Type 0) → Early → Type 0
EndsBy IsWhy (early.Refused why) = IsWhy why
EndsBy IsWhy early.KeeperFailed = ⊥
EndsBy IsWhy early.NoMemory = Unit {0}

-- a call may answer this, where these are the right answers
abbrev pub Answers : {A : Type 0} → (Result A Cause → Type 0) → Result A Early → Type 0
Answers IsRight (Ok a) = IsRight (Ok a)
Answers IsRight (Err end) = EndsBy (λ why. IsRight (Err why)) end

-- the cause is that cutting refuses the pattern
abbrev pub IsUncut : ExactPattern → Cause → Type 0
IsUncut now why = (bad : CutBad) × IsCutAnswer now (Err bad) × (why ≡ cause.Cut bad)

-- The machine: what a command answers, and what it makes of the entries. It knows whole patterns
-- and no deltas.
use Rattle.std.specs.Prelude.{◌≡◌, ◌≢◌, ℕ, ◌+◌, ◌-◌, ◌⊎◌, List, [], ◌∷◌, ◌++◌, length, drop, Option, Some}
use Rattle.std.specs.Prelude.{None, IsSome, Result, Ok, Err}
use Rattle.std.specs.Map.{keys_of}
use Rattle.exact.specs.Plane.{ExactPoint}
use Rattle.sheet.specs.Pattern.{ExactPattern}
use Rattle.pattern.specs.NativeText.{pattern_text}
use Rattle.subdivide.specs.CutAnswers.{IsCutAnswer}
use Rattle.subdivide.specs.Subdivision.{ExactSubdivision}
use Rattle.subdivide.specs.Live.{IsCut}
use Rattle.subdivide.specs.declared.edge.CutBad.{CutBad}
use Rattle.judge.specs.Faults.{AreFaults, ReportOf}
use Rattle.judge.specs.declared.fault.Fault.{Fault}
use Rattle.judge.specs.declared.report.Report.{Report}
use Rattle.edits.specs.EditOf.{EditOf}
use Rattle.edits.specs.declared.edit.Edit.{Edit}
use Rattle.edits.specs.declared.edit.Edit.TheVariants as edit
use Rattle.edits.specs.declared.refusal.EditBad.{EditBad}
use Rattle.cpfile.specs.CpReading.{ReadsCp}
use Rattle.cpfile.specs.CpText.{IsCpText}
use Rattle.cpfile.specs.declared.bad.CpBad.{CpBad}
use Rattle.cpfile.specs.declared.drawn.CpLines.{CpLines}
use Rattle.foldfile.specs.FoldText.{IsFoldText}
use Rattle.dialogue.specs.Revs.{last_rev}
use Rattle.dialogue.specs.declared.cause.Cause.{Cause}
use Rattle.dialogue.specs.declared.cause.Cause.TheVariants as cause
use Rattle.dialogue.specs.declared.command.Change.{Change}
use Rattle.dialogue.specs.declared.command.Change.TheVariants as change
use Rattle.dialogue.specs.declared.command.Command.{Command}
use Rattle.dialogue.specs.declared.command.Command.TheVariants as command
use Rattle.dialogue.specs.declared.reply.Reply.{Reply}
use Rattle.dialogue.specs.declared.reply.Reply.TheVariants as reply
use Rattle.projects.specs.Entries.{Entry, Entries, entry_at, with_entry, fresh}

-- An answer is a value, or the cause of a refusal: the cause where the rule is broken, and else
-- what the rest answers.
abbrev pub Unless : {A : Type 0} → Type 0 → Cause → (Result A Cause → Type 0) → Result A Cause → Type 0
Unless IsBroken c Rest answer = (IsBroken × (answer ≡ Err c)) ⊎ ((¬ IsBroken) × Rest answer)

-- the refusal of cutting the pattern, and else what the rest answers
abbrev pub UnlessUncut : {A : Type 0} → ExactPattern → (Result A Cause → Type 0) → Result A Cause → Type 0
UnlessUncut now Rest answer =
    ((bad : CutBad) × IsCutAnswer now (Err bad) × (answer ≡ Err (cause.Cut bad)))
    ⊎ (IsCut now × Rest answer)

-- what is asked of a pattern at a rev: its vertices and edges, its faults, what is said of a vertex
abbrev pub Shows : ℕ → ExactPattern → Result Reply Cause → Type 0
Shows rev now = UnlessUncut now (λ a.
    (s : ExactSubdivision) × IsCutAnswer now (Ok s) × (a ≡ Ok (reply.Shown rev s)))

abbrev pub ListsFaults : ℕ → ExactPattern → Result Reply Cause → Type 0
ListsFaults rev now = UnlessUncut now
    (λ a. (list : List Fault) × AreFaults now list × (a ≡ Ok (reply.Faults rev list)))

abbrev pub Reports : ExactPoint → ℕ → ExactPattern → Result Reply Cause → Type 0
Reports at rev now = UnlessUncut now
    (Unless (ReportOf now at None) cause.NoVertex (λ a.
    (report : Report) × ReportOf now at (Some report) × (a ≡ Ok (reply.Vertex at report))))

-- its native text
abbrev pub Writes : ℕ → ExactPattern → Result Reply Cause → Type 0
Writes rev now a = a ≡ Ok (reply.Text (pattern_text now))

-- the text of its subdivision in a format
abbrev pub WritesCut : (ExactSubdivision → List ℕ → Type 0) → ℕ → ExactPattern → Result Reply Cause → Type 0
WritesCut IsText rev now = UnlessUncut now (λ a.
    (s : ExactSubdivision) × IsCutAnswer now (Ok s)
    × ((text : List ℕ) × IsText s text × (a ≡ Ok (reply.Text text))))

abbrev pub WritesCp : ℕ → ExactPattern → Result Reply Cause → Type 0
WritesCp = WritesCut IsCpText

abbrev pub WritesFold : ℕ → ExactPattern → Result Reply Cause → Type 0
WritesFold = WritesCut IsFoldText

-- a rev was given, and it is not the kept one
abbrev pub IsStale : Option ℕ → ℕ → Type 0
IsStale None kept = ⊥
IsStale (Some given) kept = given ≢ kept

-- the last thousand of these, or all where there are fewer
abbrev pub last_thousand : List ExactPattern → List ExactPattern
last_thousand ps = drop (length ps - 1000) ps

-- the entry after a new pattern, after the last one of the past was taken back, and after the next
-- one of the future
abbrev pub edited : Entry → ExactPattern → Entry
edited e new = record { rev = e.rev + 1; past = last_thousand (e.past ++ e.now ∷ []); now = new; future = [] }

abbrev pub undone : Entry → List ExactPattern → ExactPattern → Entry
undone e earlier last = record { rev = e.rev + 1; past = earlier; now = last; future = e.now ∷ e.future }

abbrev pub redone : Entry → ExactPattern → List ExactPattern → Entry
redone e next later = record { rev = e.rev + 1; past = e.past ++ e.now ∷ []; now = next; future = later }

-- the entry after a change, and how the change is answered
pub record Made : Type 0 where
  pub entry : Entry
  pub reply : Reply

-- this entry, and the answer that names its rev
abbrev pub made : Entry → Made
made next = record { entry = next; reply = reply.Done next.rev }

-- this entry after so many lines of a CP text were drawn and so many were dropped
abbrev pub imported : CpLines → Entry → Made
imported read next = record { entry = next; reply = reply.Imported next.rev (length read.lines) read.dropped }

-- what an edit makes of an entry, where the answer tells this of the next entry
abbrev pub Edits : Entry → Edit → (Entry → Made) → Result Made Cause → Type 0
Edits e edit tell answer =
    ((bad : EditBad) × EditOf e.now edit (Err bad) × (answer ≡ Err (cause.Edit bad)))
    ⊎ ((new : ExactPattern) × EditOf e.now edit (Ok new) × (answer ≡ Ok (tell (edited e new))))

-- What a change makes of an entry, or why it cannot. An import reads the CP text on the sheet of the
-- pattern, and then draws the lines that were read as one edit.
abbrev pub Changes : Entry → Change → Result Made Cause → Type 0
Changes e (change.Edit edit) answer = Edits e edit made answer
Changes e (change.Import lattice text) answer =
    ((bad : CpBad) × ReadsCp lattice e.now.sheet text (Err bad) × (answer ≡ Err (cause.Cp bad)))
    ⊎ ((read : CpLines) × ReadsCp lattice e.now.sheet text (Ok read)
    × Edits e (edit.Lines read.lines) (imported read) answer)
Changes e change.Undo answer =
    ((e.past ≡ []) × (answer ≡ Err cause.NothingToUndo))
    ⊎ ((earlier : List ExactPattern) × (last : ExactPattern) × (e.past ≡ earlier ++ last ∷ [])
    × (answer ≡ Ok (made (undone e earlier last))))
Changes e change.Redo answer =
    ((e.future ≡ []) × (answer ≡ Err cause.NothingToRedo))
    ⊎ ((next : ExactPattern) × (later : List ExactPattern) × (e.future ≡ next ∷ later)
    × (answer ≡ Ok (made (redone e next later))))

-- the same, where the present pattern is cut, the rev is right and not full, and the new pattern is cut
abbrev pub Changed : Entry → Option ℕ → Change → Result Made Cause → Type 0
Changed e given c =
    UnlessUncut e.now
    (Unless (IsStale given e.rev) (cause.Stale e.rev)
    (Unless (e.rev ≡ last_rev) cause.RevFull
    (λ answer. ((why : Cause) × Changes e c (Err why) × (answer ≡ Err why))
    ⊎ ((next : Made) × Changes e c (Ok next) × UnlessUncut next.entry.now (λ a. a ≡ Ok next) answer))))

-- what is said, and the entries after it
pub record Said : Type 0 where
  pub reply : Reply
  pub entries : Entries

-- a question changes no entry
abbrev pub told : Entries → Result Reply Cause → Result Said Cause
told before (Ok r) = Ok (record { reply = r; entries = before })
told before (Err why) = Err why

-- a change puts the next entry in the place of the one under the name
abbrev pub done : Entries → List ℕ → Result Made Cause → Result Said Cause
done before name (Ok next) = Ok (record { reply = next.reply; entries = with_entry before name next.entry })
done before name (Err why) = Err why

-- of the entry under the name
abbrev pub Under : Entries → List ℕ → (Entry → Result Said Cause → Type 0) → Result Said Cause → Type 0
Under before name Of =
    Unless (entry_at before name ≡ None) cause.NoProject
    (λ answer. (e : Entry) × (entry_at before name ≡ Some e) × Of e answer)

-- a question about the pattern under the name
abbrev pub Asked : Entries → List ℕ → (ℕ → ExactPattern → Result Reply Cause → Type 0) → Result Said Cause
    → Type 0
Asked before name Question =
    Under before name (λ e answer. (r : Result Reply Cause) × Question e.rev e.now r
    × (answer ≡ told before r))

-- what a command answers: where it is refused with a cause, nothing changes
abbrev pub Answered : Entries → Command → Result Said Cause → Type 0
Answered before (command.New name sheet) answer =
    Unless (IsSome (entry_at before name)) cause.Exists
    (λ a. a ≡ Ok (record { reply = reply.Done 0; entries = with_entry before name (fresh sheet) })) answer
Answered before command.List answer = answer ≡ told before (Ok (reply.Names (keys_of before)))
Answered before (command.Show name) answer = Asked before name Shows answer
Answered before (command.Faults name) answer = Asked before name ListsFaults answer
Answered before (command.Vertex name at) answer = Asked before name (Reports at) answer
Answered before (command.PatternText name) answer = Asked before name Writes answer
Answered before (command.CpText name) answer = Asked before name WritesCp answer
Answered before (command.FoldText name) answer = Asked before name WritesFold answer
Answered before (command.Change name rev c) answer =
    Under before name (λ e a. (r : Result Made Cause) × Changed e rev c r × (a ≡ done before name r)) answer

-- a step of the machine: a command, its reply, and the entries before and after
abbrev pub Step : Entries → Command → Reply → Entries → Type 0
Step before c r after =
    ((said : Said) × Answered before c (Ok said) × (r ≡ said.reply) × (after ≡ said.entries))
    ⊎ ((why : Cause) × Answered before c (Err why) × (r ≡ reply.Refused why) × (after ≡ before))

-- a step, or a keeper that failed and changed nothing
abbrev pub StepOrFault : Entries → Command → Reply → Entries → Type 0
StepOrFault before c r after = Step before c r after ⊎ ((r ≡ reply.KeeperFailed) × (after ≡ before))

-- The text that `check` owes for its input, and the status that it ends with.
use Rattle.std.specs.Prelude.{◌≡◌, ◌≢◌, ℕ, ◌⊎◌, List, [], ◌∷◌, Result, Ok, Err}
use Rattle.sheet.specs.Sheet.{ExactSheet}
use Rattle.sheet.specs.Pattern.{ExactCrease, ExactPattern}
use Rattle.lattice.specs.Lattice.{Measures}
use Rattle.subdivide.specs.Subdivision.{Answer, CutOf}
use Rattle.subdivide.specs.declared.edge.CutBad.TheVariants as cut
use Rattle.judge.specs.Faults.{AreFaults}
use Rattle.judge.specs.declared.fault.Fault.{Fault}
use Rattle.edits.specs.EditOf.{EditOf}
use Rattle.edits.specs.declared.edit.Edit.TheVariants as edit
use Rattle.edits.specs.declared.refusal.EditBad.{EditBad}
use Rattle.edits.specs.declared.refusal.EditBad.TheVariants as edit_bad
use Rattle.cpfile.specs.CpReading.{ReadsCp}
use Rattle.cpfile.specs.declared.bad.CpBad.{CpBad}
use Rattle.cpfile.specs.declared.drawn.CpLines.{CpLines}
use Rattle.dialogue.specs.declared.cause.Cause.TheVariants as cause
use Rattle.dialogue.specs.declared.reply.Reply.TheVariants as reply
use Rattle.commands.specs.ReplyText.{reply_text, refused_text, cause_text}
use Rattle.oriedit.specs.CutText.{refusal_text}
use Rattle.oriedit.specs.declared.status.Status.{Status}
use Rattle.oriedit.specs.declared.status.Status.TheVariants as status

-- the sheet with no crease on it
abbrev pub empty_on : ExactSheet → ExactPattern
empty_on sheet = record { sheet = sheet; creases = [] }

-- the status for a list of faults
abbrev pub faults_status : List Fault → Status
faults_status [] = status.Ok
faults_status (fault ∷ faults) = status.FaultsFound

-- what is due for a pattern that cutting answers so: the refusal, or the faults of the pattern
abbrev pub JudgedText : ExactPattern → Answer → Status → List ℕ → Type 0
JudgedText pattern (Answer.CrossRange first second) s text =
    (s ≡ status.Refused) × (text ≡ refusal_text (cut.CrossRange first second))
JudgedText pattern Answer.TooManyVertices s text =
    (s ≡ status.Refused) × (text ≡ refusal_text cut.TooManyVertices)
JudgedText pattern (Answer.Cut vs es) s text =
    (faults : List Fault) × AreFaults pattern faults
    × (s ≡ faults_status faults) × (text ≡ reply_text (reply.Faults 0 faults))

-- what is due for a pattern
abbrev pub FaultsText : ExactPattern → Status → List ℕ → Type 0
FaultsText pattern s text = (answer : Answer) × CutOf pattern answer × JudgedText pattern answer s text

-- What is due where drawing lines on the empty sheet answers so. Where nothing is drawn, it stays empty.
abbrev pub DrawnText : ExactSheet → Result ExactPattern EditBad → Status → List ℕ → Type 0
DrawnText sheet (Ok pattern) s text = FaultsText pattern s text
DrawnText sheet (Err bad) s text =
    ((bad ≡ edit_bad.NoChange) × FaultsText (empty_on sheet) s text)
    ⊎ ((bad ≢ edit_bad.NoChange) × (s ≡ status.Refused) × (text ≡ refused_text (cause_text (cause.Edit bad))))

-- what is due for the lines that a CP text draws
abbrev pub LinesText : ExactSheet → List ExactCrease → Status → List ℕ → Type 0
LinesText sheet lines s text =
    (drawn : Result ExactPattern EditBad) × EditOf (empty_on sheet) (edit.Lines lines) drawn
    × DrawnText sheet drawn s text

-- what is due for what the input is read as: its lines, or its first bad line
abbrev pub CpAnswerText : ExactSheet → Result CpLines CpBad → Status → List ℕ → Type 0
CpAnswerText sheet (Ok read) s text = LinesText sheet read.lines s text
CpAnswerText sheet (Err bad) s text = (s ≡ status.Refused) × (text ≡ refused_text (cause_text (cause.Cp bad)))

-- what is due for the bytes of the input, by this lattice and on this sheet
abbrev pub CheckText : Measures → ExactSheet → List ℕ → Status → List ℕ → Type 0
CheckText lattice sheet bytes s text =
    (read : Result CpLines CpBad) × ReadsCp lattice sheet bytes read × CpAnswerText sheet read s text

-- How the text that is due, and what came of writing it, make the end of a run.
use Rattle.std.proofs.Common.{◌≡◌, ℕ, List, [], ◌∷◌, ◌<◌, length, inl, inr, refl, subst, sym, ap, arith}
use Rattle.std.specs.Prelude.{Option, Result, Ok, Err, IfOk}
use Rattle.sheet.specs.Pattern.{ExactPattern}
use Rattle.ports.specs.declared.stop.Stop.TheVariants as stop
use Rattle.subdivide.specs.Subdivision.{Answer}
use Rattle.ports.specs.Stops.{Refuses}
use Rattle.subdivide.specs.CutAnswers.{IsCutAnswer}
use Rattle.subdivide.specs.declared.edge.CutBad.{CutBad}
use Rattle.subdivide.specs.declared.edge.CutBad.TheVariants as bad
use Rattle.sheet.specs.Sheet.{ExactSheet}
use Rattle.lattice.specs.Lattice.{Measures}
use Rattle.edits.specs.declared.refusal.EditBad.{EditBad}
use Rattle.judge.specs.declared.fault.Fault.{Fault}
use Rattle.cpfile.specs.declared.bad.CpBad.{CpBad}
use Rattle.cpfile.specs.declared.drawn.CpLines.{CpLines}
use Rattle.ports.specs.Taken.{IsSpent}
use Rattle.oriedit.specs.CutText.{CutText, PatternText, answer_status, refusal_text}
use Rattle.oriedit.specs.CheckText.{empty_on, faults_status, JudgedText, FaultsText, DrawnText, CpAnswerText, CheckText}
use Rattle.oriedit.specs.Outputs.{Gained}
use Rattle.oriedit.specs.Limits.{input_limit}
use Rattle.oriedit.specs.Run.{Dues, Answers, WritesDue, Ends}
use Rattle.dialogue.specs.declared.cause.Cause.TheVariants as cause
use Rattle.dialogue.specs.declared.reply.Reply.TheVariants as reply
use Rattle.commands.specs.ReplyText.{refused_text, cause_text}
use Rattle.oriedit.specs.Dues.{text_of}
use Rattle.oriedit.specs.declared.due.Text.{Text}
use Rattle.oriedit.specs.declared.due.Text.TheVariants as written
use Rattle.oriedit.specs.declared.status.Status.{Status}
use Rattle.oriedit.specs.declared.status.Status.TheVariants as status

-- a status that comes with a text
pub data IsDue : Status → Type 0 where
  Accepted : IsDue status.Ok
  Found : IsDue status.FaultsFound
  Rejected : IsDue status.Refused

answer_due : (answer : Answer) → IsDue (answer_status answer)
answer_due (Answer.CrossRange s t) = Rejected
answer_due Answer.TooManyVertices = Rejected
answer_due (Answer.Cut vs es) = Accepted

pattern_due : (pattern : ExactPattern) (s : Status) (text : List ℕ) → PatternText pattern s text → IsDue s
pattern_due pattern s text p = subst IsDue (sym p.2) (answer_due p.0)

pub cut_due : (bytes text : List ℕ) (s : Status) → CutText bytes s text → IsDue s
cut_due bytes text s (inl p) = pattern_due p.0 s text p.2
cut_due bytes text s (inr p) = subst IsDue (sym p.2) Rejected

-- a refusal of cutting is due
pub refused : (pattern : ExactPattern) (b : CutBad) → Refuses (IsCutAnswer pattern) (stop.Why b)
    → (text : List ℕ) → text ≡ refusal_text b → PatternText pattern status.Refused text
refused pattern (bad.CrossRange s t) r text e = (Answer.CrossRange s t, r, refl, e)
refused pattern bad.TooManyVertices r text e = (Answer.TooManyVertices, r, refl, e)

faults_due : (faults : List Fault) → IsDue (faults_status faults)
faults_due [] = Accepted
faults_due (fault ∷ faults) = Found

judged_due : (pattern : ExactPattern) (answer : Answer) (s : Status) (text : List ℕ)
    → JudgedText pattern answer s text → IsDue s
judged_due pattern (Answer.CrossRange f t) s text j = subst IsDue (sym j.0) Rejected
judged_due pattern Answer.TooManyVertices s text j = subst IsDue (sym j.0) Rejected
judged_due pattern (Answer.Cut vs es) s text j = subst IsDue (sym j.2) (faults_due j.0)

drawn_due : (sheet : ExactSheet) (drawn : Result ExactPattern EditBad) (s : Status) (text : List ℕ)
    → DrawnText sheet drawn s text → IsDue s
drawn_due sheet (Ok pattern) s text d = judged_due pattern d.0 s text d.2
drawn_due sheet (Err bad) s text (inl d) = judged_due (empty_on sheet) d.1.0 s text d.1.2
drawn_due sheet (Err bad) s text (inr d) = subst IsDue (sym d.1) Rejected

cp_due : (sheet : ExactSheet) (read : Result CpLines CpBad) (s : Status) (text : List ℕ)
    → CpAnswerText sheet read s text → IsDue s
cp_due sheet (Ok read) s text d = drawn_due sheet d.0 s text d.2
cp_due sheet (Err bad) s text d = subst IsDue (sym d.0) Rejected

pub check_due : (lattice : Measures) (sheet : ExactSheet) (bytes text : List ℕ) (s : Status)
    → CheckText lattice sheet bytes s text → IsDue s
check_due lattice sheet bytes text s d = cp_due sheet d.0 s text d.2

-- a refusal of cutting is due for the faults of a pattern too
pub faults_refused : (pattern : ExactPattern) (b : CutBad) → Refuses (IsCutAnswer pattern) (stop.Why b)
    → (text : List ℕ) → text ≡ refusal_text b → FaultsText pattern status.Refused text
faults_refused pattern (bad.CrossRange s t) r text e = (Answer.CrossRange s t, r, (refl, e))
faults_refused pattern bad.TooManyVertices r text e = (Answer.TooManyVertices, r, (refl, e))

-- a text that was written
came_due : (Due : Dues) (bytes text : List ℕ) (held now : Option (List ℕ)) (due : Status) → IsDue due
    → Due bytes due text → Gained held now text → Answers Due bytes held now due
came_due Due bytes text held now due Accepted t w = (text, t, w)
came_due Due bytes text held now due Found t w = (text, t, w)
came_due Due bytes text held now due Rejected t w = (text, t, w)

pub answered : (Due : Dues) (bytes text : List ℕ) (held now : Option (List ℕ)) (due came : Status) → IsDue due
    → Due bytes due text → WritesDue held now text due came → Answers Due bytes held now came
answered Due bytes text held now due came d t (inl w) =
    let P : Status → Type 0 = λ s. Answers Due bytes held now s in subst P (sym w.0) (came_due Due bytes text held now due d t w.1)
answered Due bytes text held now due came d t (inr w) =
    let P : Status → Type 0 = λ s. Answers Due bytes held now s in subst P (sym w.0) (due, text, t, w.1)

pub ends : (Due : Dues) (bytes : List ℕ) (left held now : Option (List ℕ)) (s : Status) → IsSpent left
    → length bytes < input_limit → Answers Due bytes held now s → Ends Due bytes left held now s
ends Due bytes left held now status.Ok e l a = ((e, l), a)
ends Due bytes left held now status.FaultsFound e l a = ((e, l), a)
ends Due bytes left held now status.Refused e l a = ((e, l), a)
ends Due bytes left held now status.WriteFault e l a = ((e, l), a)
ends Due bytes left held now status.NoMemory e l a = (omega arith, a)
ends Due bytes left held now status.Usage e l a = absurd a
ends Due bytes left held now status.ReadFault e l a = absurd a
ends Due bytes left held now status.KeeperFault e l a = absurd a
ends Due bytes left held now status.DoorFault e l a = absurd a
ends Due bytes left held now status.TooLong e l a = absurd a

-- what a call that may find no memory gives, told otherwise
pub given : {A E : Type 0} (P Q : A → Type 0) (r : Result A E) → ((a : A) → P a → Q a) → IfOk r P → IfOk r Q
given P Q (Ok a) f h = f a h
given P Q (Err e) f h = h

-- the text of a refusal of cutting
pub refused_so : (b : CutBad) (t : Text) → t ≡ written.Reply (reply.Refused (cause.Cut b))
    → text_of t ≡ refusal_text b
refused_so b t e = ap text_of e

-- the text of a CP text's refusal
pub cp_refused : (b : CpBad) (t : Text) → t ≡ written.Reply (reply.Refused (cause.Cp b))
    → text_of t ≡ refused_text (cause_text (cause.Cp b))
cp_refused b t e = ap text_of e

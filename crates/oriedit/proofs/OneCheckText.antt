-- One text is due for a CP text, by one lattice and on one sheet.
use Rattle.std.proofs.Common.{◌≡◌, ℕ, List, refl, sym, ap, subst, ◌∙◌, inl, inr}
use Rattle.std.specs.Prelude.{Result, Ok, Err}
use Rattle.sheet.specs.Sheet.{ExactSheet}
use Rattle.sheet.specs.Pattern.{ExactCrease, ExactPattern}
use Rattle.lattice.specs.Lattice.{Measures}
use Rattle.creases.specs.Creases.{Ascends}
use Rattle.subdivide.specs.Subdivision.{Answer, CutOf}
use Rattle.subdivide.specs.declared.edge.CutBad.TheVariants as cut
use Rattle.edits.specs.EditOf.{EditOf, HasSmallAxis}
use Rattle.edits.specs.declared.edit.Edit.{Edit}
use Rattle.edits.specs.declared.edit.Edit.TheVariants as edit
use Rattle.edits.specs.declared.refusal.EditBad.{EditBad}
use Rattle.cpfile.specs.CpReading.{ReadsCp}
use Rattle.cpfile.specs.declared.bad.CpBad.{CpBad}
use Rattle.cpfile.specs.declared.drawn.CpLines.{CpLines}
use Rattle.dialogue.specs.declared.reply.Reply.TheVariants as reply
use Rattle.commands.specs.ReplyText.{reply_text}
use Rattle.oriedit.specs.CutText.{refusal_text}
use Rattle.oriedit.specs.CheckText.{empty_on, faults_status, CheckText}
use Rattle.oriedit.specs.CheckText.{JudgedText, FaultsText, DrawnText, LinesText, CpAnswerText}
use Rattle.oriedit.specs.declared.status.Status.{Status}
use Rattle.oriedit.proofs.OneFaults.{faults_one}
use Rattle.oriedit.proofs.Ascending.{none_ascend, drawn_ascend}
use Rattle.oriedit.proofs.CutOnce.{first_pair_one}
use Rattle.subdivide.proofs.callers.OneAnswer.{too_many}

abbrev pub HasOneReading : Type 0
HasOneReading = (l : Measures) → (sheet : ExactSheet) → (bytes : List ℕ) → (read other : Result CpLines CpBad)
    → ReadsCp l sheet bytes read → ReadsCp l sheet bytes other → read ≡ other

abbrev pub HasOneEdit : Type 0
HasOneEdit = (old : ExactPattern) (edit : Edit) → HasSmallAxis edit → (x y : Result ExactPattern EditBad)
    → EditOf old edit x → EditOf old edit y → x ≡ y

-- one status and one text
abbrev AreSame : Status → Status → List ℕ → List ℕ → Type 0
AreSame s r text other = (s ≡ r) × (text ≡ other)

judged_same : (pattern : ExactPattern) → Ascends pattern.creases → (x y : Answer) (s r : Status)
    (text other : List ℕ) → CutOf pattern x → CutOf pattern y → JudgedText pattern x s text
    → JudgedText pattern y r other → AreSame s r text other
judged_same pattern h (Answer.CrossRange s t) (Answer.CrossRange u v) m n text other p q a b =
    let e = first_pair_one pattern h s t u v p q in
    let f = ap (λ x. refusal_text (cut.CrossRange x t)) e.0 in
    let g = ap (λ x. refusal_text (cut.CrossRange u x)) e.1 in
    (a.0 ∙ sym b.0, a.1 ∙ f ∙ g ∙ sym b.1)
judged_same pattern h (Answer.CrossRange s t) Answer.TooManyVertices m n text other p q a b =
    absurd (q.0 s t p.0)
judged_same pattern h (Answer.CrossRange s t) (Answer.Cut vs es) m n text other p q a b = absurd (q.0 s t p.0)
judged_same pattern h Answer.TooManyVertices (Answer.CrossRange u v) m n text other p q a b =
    absurd (p.0 u v q.0)
judged_same pattern h Answer.TooManyVertices Answer.TooManyVertices m n text other p q a b =
    (a.0 ∙ sym b.0, a.1 ∙ sym b.1)
judged_same pattern h Answer.TooManyVertices (Answer.Cut vs es) m n text other p q a b =
    absurd (too_many pattern p.1.0 vs p.1.1 q.1 p.1.2 q.2)
judged_same pattern h (Answer.Cut vs es) (Answer.CrossRange u v) m n text other p q a b = absurd (p.0 u v q.0)
judged_same pattern h (Answer.Cut vs es) Answer.TooManyVertices m n text other p q a b =
    absurd (too_many pattern q.1.0 vs q.1.1 p.1 q.1.2 p.2)
judged_same pattern h (Answer.Cut vs es) (Answer.Cut ws fs) m n text other p q a b =
    let e = faults_one pattern a.0 b.0 a.1 b.1 in
    (a.2 ∙ ap faults_status e ∙ sym b.2, a.3 ∙ ap (λ x. reply_text (reply.Faults 0 x)) e ∙ sym b.3)

faults_same : (pattern : ExactPattern) → Ascends pattern.creases → (s r : Status) (text other : List ℕ)
    → FaultsText pattern s text → FaultsText pattern r other → AreSame s r text other
faults_same pattern h s r text other a b = judged_same pattern h a.0 b.0 s r text other a.1 b.1 a.2 b.2

drawn_same : (sheet : ExactSheet) (drawn : Result ExactPattern EditBad)
    → ((pattern : ExactPattern) → drawn ≡ Ok pattern → Ascends pattern.creases) → (s r : Status)
    (text other : List ℕ) → DrawnText sheet drawn s text → DrawnText sheet drawn r other
    → AreSame s r text other
drawn_same sheet (Ok pattern) up s r text other a b = faults_same pattern (up pattern refl) s r text other a b
drawn_same sheet (Err bad) up s r text other (inl a) (inl b) =
    faults_same (empty_on sheet) none_ascend s r text other a.1 b.1
drawn_same sheet (Err bad) up s r text other (inl a) (inr b) = absurd (b.0 a.0)
drawn_same sheet (Err bad) up s r text other (inr a) (inl b) = absurd (a.0 b.0)
drawn_same sheet (Err bad) up s r text other (inr a) (inr b) = (a.1 ∙ sym b.1, a.2 ∙ sym b.2)

lines_same : HasOneEdit → (sheet : ExactSheet) (lines : List ExactCrease) (s r : Status) (text other : List ℕ)
    → LinesText sheet lines s text → LinesText sheet lines r other → AreSame s r text other
lines_same one sheet lines s r text other a b =
    let e = one (empty_on sheet) (edit.Lines lines) tt a.0 b.0 a.1 b.1 in
    drawn_same sheet b.0 up s r text other (subst (λ x. DrawnText sheet x s text) e a.2) b.2
  where
    up : (pattern : ExactPattern) → b.0 ≡ Ok pattern → Ascends pattern.creases
    up pattern is = drawn_ascend sheet lines pattern (subst (EditOf (empty_on sheet) (edit.Lines lines)) is b.1)

answer_same : HasOneEdit → (sheet : ExactSheet) (read : Result CpLines CpBad) (s r : Status)
    (text other : List ℕ) → CpAnswerText sheet read s text → CpAnswerText sheet read r other
    → AreSame s r text other
answer_same one sheet (Ok read) s r text other a b = lines_same one sheet read.lines s r text other a b
answer_same one sheet (Err bad) s r text other a b = (a.0 ∙ sym b.0, a.1 ∙ sym b.1)

pub one_check_text : HasOneReading → HasOneEdit → (l : Measures) (sheet : ExactSheet) (bytes : List ℕ)
    (s r : Status) (text other : List ℕ) → CheckText l sheet bytes s text → CheckText l sheet bytes r other
    → AreSame s r text other
one_check_text reading one l sheet bytes s r text other a b =
    let e = reading l sheet bytes a.0 b.0 a.1 b.1 in
    answer_same one sheet b.0 s r text other (subst (λ x. CpAnswerText sheet x s text) e a.2) b.2

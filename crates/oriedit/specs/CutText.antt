-- The text that `cut` owes for its input, and the status that it ends with.
use Rattle.std.specs.Prelude.{◌≡◌, ℕ, ◌⊎◌, List}
use Rattle.sheet.specs.Pattern.{ExactPattern}
use Rattle.pattern.specs.NativeReading.{IsRead, IsRefused}
use Rattle.pattern.specs.declared.native.PatternBad.{PatternBad}
use Rattle.subdivide.specs.Subdivision.{Answer, CutOf}
use Rattle.subdivide.specs.declared.edge.CutBad.{CutBad}
use Rattle.subdivide.specs.declared.edge.CutBad.TheVariants as bad
use Rattle.commands.specs.ReplyText.{shown_text, refused_text, cut_cause}
use Rattle.oriedit.specs.ReplyText.{bad_cause}
use Rattle.oriedit.specs.declared.status.Status.{Status}
use Rattle.oriedit.specs.declared.status.Status.TheVariants as status

-- the line of a refusal of cutting
abbrev pub refusal_text : CutBad → List ℕ
refusal_text why = refused_text (cut_cause why)

-- the text and the status for an answer of cutting
abbrev pub answer_text : Answer → List ℕ
answer_text (Answer.CrossRange s t) = refusal_text (bad.CrossRange s t)
answer_text Answer.TooManyVertices = refusal_text bad.TooManyVertices
answer_text (Answer.Cut vs es) = shown_text 0 vs es

abbrev pub answer_status : Answer → Status
answer_status (Answer.CrossRange s t) = status.Refused
answer_status Answer.TooManyVertices = status.Refused
answer_status (Answer.Cut vs es) = status.Ok

-- what is due for a pattern
abbrev pub PatternText : ExactPattern → Status → List ℕ → Type 0
PatternText pattern s text =
    (answer : Answer) × CutOf pattern answer × (s ≡ answer_status answer) × (text ≡ answer_text answer)

-- what is due for the bytes of the input: the answer of cutting where they are the text of a
-- pattern, and else their refusal
abbrev pub CutText : List ℕ → Status → List ℕ → Type 0
CutText bytes s text =
    ((pattern : ExactPattern) × IsRead bytes pattern × PatternText pattern s text)
    ⊎ ((bad : PatternBad) × IsRefused bytes bad × (s ≡ status.Refused)
    × (text ≡ refused_text (bad_cause bad)))

-- What the bytes of a word are read as, for each kind of word: a value, or why the word is wrong.
use Rattle.std.specs.Prelude.{◌≡◌, ◌≢◌, ℕ, ◌<◌, ◌≤◌, List, [], ◌∷◌, Result, Ok, Err, decimal}
use Rattle.exact.specs.Plane.{ExactPoint}
use Rattle.qroot2.specs.declared.text.NumText.{NumText}
use Rattle.qroot2.specs.declared.text.NumText.TheVariants.{Syntax, Range}
use Rattle.sheet.specs.Sheet.{IsLength}
use Rattle.sheet.specs.declared.colour.Colour.{Colour}
use Rattle.sheet.specs.declared.mark.Mark.{Mark}
use Rattle.plane.specs.PointReads.{ReadsPoint}
use Rattle.pattern.specs.NativeText.{letter}
use Rattle.vocabulary.specs.Names.{IsName}
use Rattle.vocabulary.specs.Verbs.{verb_text}
use Rattle.commands.specs.Spelling.{mark_letter, IsWho, who_text}
use Rattle.commands.specs.declared.who.Who.{Who}
use Rattle.vocabulary.specs.declared.verb.Verb.{Verb}

-- the one of some values that the bytes spell
abbrev pub Spells : {A : Type 0} → (A → Type 0) → (A → List ℕ) → List ℕ → Result A NumText → Type 0
Spells IsIt spelled bytes (Ok a) = IsIt a × (spelled a ≡ bytes)
Spells {A = A} IsIt spelled bytes (Err Syntax) = (a : A) → IsIt a → spelled a ≢ bytes
Spells IsIt spelled bytes (Err Range) = ⊥

abbrev pub AVerb : List ℕ → Result Verb NumText → Type 0
AVerb = Spells (λ verb. Unit {0}) verb_text

abbrev pub AName : List ℕ → Result (List ℕ) NumText → Type 0
AName = Spells IsName (λ name. name)

abbrev pub AWho : List ℕ → Result Who NumText → Type 0
AWho = Spells IsWho who_text

abbrev pub AColour : List ℕ → Result Colour NumText → Type 0
AColour = Spells (λ colour. Unit {0}) (λ colour. letter colour ∷ [])

abbrev pub AMark : List ℕ → Result Mark NumText → Type 0
AMark = Spells (λ mark. Unit {0}) (λ mark. mark_letter mark ∷ [])

abbrev pub ADirection : List ℕ → Result ℕ NumText → Type 0
ADirection = Spells (λ k. k < 16) decimal

-- a whole number within limits
abbrev pub ANumber : ℕ → ℕ → List ℕ → Result ℕ NumText → Type 0
ANumber low most = Spells (λ n. (low ≤ n) × (n ≤ most)) decimal

abbrev pub ALength : List ℕ → Result ℕ NumText → Type 0
ALength = Spells IsLength decimal

abbrev pub APoint : List ℕ → Result ExactPoint NumText → Type 0
APoint = ReadsPoint

-- What the reader of words knows when it has taken one.
use Rattle.std.specs.Prelude.{◌≡◌, ℕ, ◌⊎◌, List, [], Option, Some, None, Result, Ok, Err}
use Rattle.qroot2.specs.declared.text.NumText.{NumText}
use Rattle.qroot2.specs.declared.text.NumText.TheVariants.{Syntax}
use Rattle.vocabulary.specs.Names.{IsName}
use Rattle.lines.specs.Words.{Word, Left, before}
use Rattle.commands.specs.Reading.{wrong_at}
use Rattle.commands.specs.declared.who.Who.{Who}
use Rattle.commands.specs.declared.bad.BadText.{BadText}
use Rattle.commands.specs.declared.bad.BadText.TheVariants as bad

-- reading that gives no value finds the bytes wrong
abbrev pub ReadsOption : {A : Type 0} → (List ℕ → Result A NumText → Type 0) → List ℕ → Option A → Type 0
ReadsOption Reads bytes (Some a) = Reads bytes (Ok a)
ReadsOption Reads bytes None = Reads bytes (Err Syntax)

-- a project of this name, where it is one, and of this rev
abbrev pub HasName : List ℕ → Option ℕ → Option Who → Type 0
HasName name rev (Some who) = IsName name × (who.name ≡ name) × (who.rev ≡ rev)
HasName name rev None = ¬ IsName name

-- the first word was taken, and is read as this value
pub record IsTaken {A : Type 0} (Reads : List ℕ → Result A NumText → Type 0) (old : Left) (a : A)
    (new : Left) : Type 0 where
  pub word : Word
  pub taken : old ≡ before word new
  pub reads : Reads word.text (Ok a)

-- the first word is missing or wrong
pub record IsWrongWord {A : Type 0} (Reads : List ℕ → Result A NumText → Type 0) (old : Left)
    (why : BadText) : Type 0 where
  pub word : Word
  pub new : Left
  pub taken : old ≡ before word new
  pub because : NumText
  pub reads : Reads word.text (Err because)
  pub at : why ≡ wrong_at word.column because

abbrev pub IsWrong : {A : Type 0} → (List ℕ → Result A NumText → Type 0) → Left → BadText → Type 0
IsWrong Reads old why = ((old.words ≡ []) × (why ≡ bad.Syntax old.missing)) ⊎ IsWrongWord Reads old why

-- there is a word more
pub record HasMore (old : Left) (why : BadText) : Type 0 where
  pub word : Word
  pub new : Left
  pub taken : old ≡ before word new
  pub at : why ≡ bad.Syntax word.column

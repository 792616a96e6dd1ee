-- The lines of a command, and what reading a text as a command answers.
use Rattle.std.specs.Prelude.{◌≡◌, ℕ, ◌+◌, ◌<◌, ◌≤◌, ◌⊎◌, List, [], ◌∷◌, length, Option, None, Result, Ok}
use Rattle.std.specs.Prelude.{Err, slice_index}
use Rattle.dialogue.specs.declared.command.Command.{Command}
use Rattle.lines.specs.Words.{Word, AreWords}
use Rattle.lines.specs.Lines.{IsBare, IsFirstLine}
use Rattle.commands.specs.Reading.{ReadsWords}
use Rattle.commands.specs.Imports.{line_limit, alone, IsImport}
use Rattle.commands.specs.declared.ask.Asked.{Asked}
use Rattle.commands.specs.declared.ask.Asked.TheVariants as asked
use Rattle.commands.specs.declared.bad.BadText.{BadText}
use Rattle.commands.specs.declared.bad.BadText.TheVariants as bad

-- a blank line, or a comment: the first word begins with `#`
abbrev pub IsSilent : List Word → Type 0
IsSilent [] = Unit {0}
IsSilent (word ∷ words) = slice_index word.text 0 ≡ 35

-- what a line asks for, with the bytes behind it
abbrev pub Completes : Result Asked BadText → List ℕ → Result (Option Command) BadText → Type 0
Completes (Err why) after answer = answer ≡ Err why
Completes (Ok (asked.Command command)) after answer = answer ≡ alone after command
Completes (Ok (asked.Import line)) after answer = IsImport line after answer

-- What a line of these words asks for. A line that is too long is wrong before all else.
abbrev pub Asks : List ℕ → List Word → Result Asked BadText → Type 0
Asks line words read =
    ((line_limit < length line) × (read ≡ Err (bad.Syntax (line_limit + 1))))
    ⊎ ((length line ≤ line_limit) × ReadsWords (record { words = words; missing = length line + 1 }) read)

abbrev pub ReadsLine : List ℕ → List Word → List ℕ → Result (Option Command) BadText → Type 0
ReadsLine line words after answer =
    (read : Result Asked BadText) × Asks line words read × Completes read after answer

-- What the reading of a text as one command answers. A blank line and a comment of any length are none.
pub record ReadsCommand (text : List ℕ) (answer : Result (Option Command) BadText) : Type 0 where
  pub line : List ℕ
  pub after : List ℕ
  pub words : List Word
  pub first : IsFirstLine text line after
  pub all : AreWords line words
  pub read : (IsSilent words × (answer ≡ Ok None)) ⊎ ((¬ IsSilent words) × ReadsLine line words after answer)

-- how many lines behind it belong to a line that asks for this
abbrev pub count_of : Result Asked BadText → ℕ
count_of (Err why) = 0
count_of (Ok (asked.Command command)) = 0
count_of (Ok (asked.Import line)) = line.count

-- So many lines behind the first of a command belong to it. The first is given without its line feed;
-- one CR at its end is dropped.
pub record IsWanted (first : List ℕ) (count : ℕ) : Type 0 where
  pub line : List ℕ
  pub words : List Word
  pub bare : IsBare first line
  pub all : AreWords line words
  pub read : Result Asked BadText
  pub asks : Asks line words read
  pub count_is : count ≡ count_of read

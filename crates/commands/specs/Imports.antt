-- The lines that belong to an import, and what they make of it.
use Rattle.std.specs.Prelude.{◌≡◌, ℕ, ◌+◌, ◌<◌, ◌≤◌, ◌⊎◌, List, [], ◌∷◌, ◌++◌, length, flat_map, All, Option}
use Rattle.std.specs.Prelude.{Some, Result, Ok, Err}
use Rattle.dialogue.specs.declared.command.Change.TheVariants as change
use Rattle.dialogue.specs.declared.command.Command.{Command}
use Rattle.lines.specs.Lines.{AreFirstLines}
use Rattle.commands.specs.Reading.{changed}
use Rattle.commands.specs.declared.ask.ImportLine.{ImportLine}
use Rattle.commands.specs.declared.bad.BadText.{BadText}
use Rattle.commands.specs.declared.bad.BadText.TheVariants as bad

-- the greatest length of a line
abbrev pub line_limit : ℕ
line_limit = 4096

abbrev pub AreShort : List (List ℕ) → Type 0
AreShort lines = All (λ line. length line ≤ line_limit) lines

-- so many lines behind the first, or as many as there are, and the bytes behind them
pub record Belong (count : ℕ) (after : List ℕ) (lines : List (List ℕ)) (rest : List ℕ) : Type 0 where
  pub front : AreFirstLines after lines rest
  pub most : length lines ≤ count
  pub lacking : length lines < count → rest ≡ []

-- each line with a line feed
abbrev pub lines_text : List (List ℕ) → List ℕ
lines_text = flat_map (λ line. line ++ 10 ∷ [])

abbrev pub import_of : ImportLine → List ℕ → Command
import_of line text = changed line.who (change.Import line.lattice text)

-- a command that was read, where no bytes come behind its lines
abbrev pub alone : List ℕ → Command → Result (Option Command) BadText
alone [] command = Ok (Some command)
alone (b ∷ rest) command = Err (bad.Syntax 1)

-- tested in this order: a line is too long, lines are lacking, bytes come behind
abbrev pub ImportAnswers : ImportLine → List (List ℕ) → List ℕ → Result (Option Command) BadText → Type 0
ImportAnswers line lines rest answer =
    ((¬ AreShort lines) × (answer ≡ Err (bad.Syntax (line_limit + 1))))
    ⊎ (AreShort lines × (length lines < line.count) × (answer ≡ Err (bad.Syntax line.column)))
    ⊎ (AreShort lines × (length lines ≡ line.count)
    × (answer ≡ alone rest (import_of line (lines_text lines))))

-- an import with the lines behind its own
pub record IsImport (line : ImportLine) (after : List ℕ)
    (answer : Result (Option Command) BadText) : Type 0 where
  pub lines : List (List ℕ)
  pub rest : List ℕ
  pub belong : Belong line.count after lines rest
  pub answers : ImportAnswers line lines rest answer

-- What the words of the command line ask for.
use Rattle.std.specs.Prelude.{ℕ, List, Option, option_map}
use Rattle.std.specs.Borrow.{Bor}
use Rattle.sheet.specs.Sheet.{ExactSheet}
use Rattle.lattice.specs.Lattice.{Measures}
use Rattle.words.specs.declared.ask.Ask.{Ask}
use Rattle.words.specs.declared.ask.Ask.TheVariants as ask

-- the usage text, or a command with its settings
pub data Task : Type 0 where
  Usage : Task
  Cut : Task
  Check : Measures → ExactSheet → Task
  Script : Option (List ℕ) → Task
  Generate : ℕ → ℕ → Task
  Serve : ℕ → ℕ → Option (List ℕ) → Task

-- the text behind a reference, if there is one
abbrev pub maybe_text : Option (Bor (List ℕ)) → Option (List ℕ)
maybe_text text = option_map (λ (t : Bor (List ℕ)). t.now) text

-- a task as the program holds it
abbrev pub task_of : Ask → Task
task_of ask.Usage = Task.Usage
task_of ask.Cut = Task.Cut
task_of (ask.Check lattice sheet) = Task.Check lattice sheet
task_of (ask.Script keep) = Task.Script (maybe_text keep)
task_of (ask.Generate seed count) = Task.Generate seed count
task_of (ask.Serve port connections keep) = Task.Serve port connections (maybe_text keep)

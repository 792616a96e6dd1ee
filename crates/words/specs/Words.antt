-- The words of the command line.
use Rattle.std.specs.Prelude.{◌≡◌, ℕ, ◌≤◌, ◌<◌, ◌^◌, List, [], ◌∷◌, ◌++◌, Option, codes, decimal}
use Rattle.sheet.specs.Sheet.{ExactSheet}
use Rattle.lattice.specs.Lattice.{Measures}
use Rattle.words.specs.Grammar.{Given, Gives, IsTextOf, IsGivenNumber, IsNumberOf}
use Rattle.words.specs.Tasks.{Task}
use Rattle.words.specs.declared.argument.Argument.{Argument}
use Rattle.words.specs.declared.argument.Argument.TheVariants as argument

abbrev pub check_arguments : List Argument
check_arguments = argument.D ∷ argument.K ∷ argument.Tol ∷ argument.W ∷ argument.H ∷ []

abbrev pub script_arguments : List Argument
script_arguments = argument.Keep ∷ []

abbrev pub serve_arguments : List Argument
serve_arguments = argument.Port ∷ argument.Connections ∷ argument.Keep ∷ []

-- The words behind `check`, with the lattice and the sheet that they name: the greatest number and
-- the usual one of each option, and d at most k.
pub record AreForCheck (further : List (List ℕ)) (lattice : Measures) (sheet : ExactSheet) : Type 0 where
  pub given : List Given
  pub gives : Gives check_arguments given further
  pub d : IsNumberOf given argument.D 1024 64 lattice.d
  pub k : IsNumberOf given argument.K 1024 128 lattice.k
  pub tol : IsNumberOf given argument.Tol 100000 1000 lattice.tol
  pub w : IsNumberOf given argument.W 8 1 sheet.w
  pub h : IsNumberOf given argument.H 8 1 sheet.h
  pub k_from : lattice.d ≤ lattice.k

-- the words behind `script`, with the path to keep projects at
pub record AreForScript (further : List (List ℕ)) (keep : Option (List ℕ)) : Type 0 where
  pub given : List Given
  pub gives : Gives script_arguments given further
  pub kept : IsTextOf given argument.Keep keep

-- the words behind `generate`: the seed and the number of turns
pub record AreForGenerate (further : List (List ℕ)) (seed count : ℕ) : Type 0 where
  pub are : further ≡ decimal seed ∷ decimal count ∷ []
  pub seed_fits : seed < 2 ^ 64
  pub count_small : count ≤ 100000

-- The words behind `serve`: the port, which has to be there, how many connections are served, which
-- is 2 ^ 64 - 1 where the words do not say it, and the path to keep projects at.
pub record AreForServe (further : List (List ℕ)) (port connections : ℕ)
    (keep : Option (List ℕ)) : Type 0 where
  pub given : List Given
  pub gives : Gives serve_arguments given further
  pub at : IsGivenNumber given argument.Port 65535 port
  pub served : IsNumberOf given argument.Connections 1000000 18446744073709551615 connections
  pub kept : IsTextOf given argument.Keep keep

-- a first word, and words of this kind behind it
abbrev pub Behind : List ℕ → (List (List ℕ) → Type 0) → List (List ℕ) → Type 0
Behind first AreFurther words = (further : List (List ℕ)) × (words ≡ first ∷ further) × AreFurther further

-- the words are those of a command with these settings
abbrev pub Names : List (List ℕ) → Task → Type 0
Names words Task.Usage = ⊥
Names words Task.Cut = Behind (codes "cut") (λ further. further ≡ []) words
Names words (Task.Check lattice sheet) = Behind (codes "check")
    (λ further. AreForCheck further lattice sheet) words
Names words (Task.Script keep) = Behind (codes "script") (λ further. AreForScript further keep) words
Names words (Task.Generate seed count) = Behind (codes "generate")
    (λ further. AreForGenerate further seed count) words
Names words (Task.Serve port connections keep) =
    Behind (codes "serve") (λ further. AreForServe further port connections keep) words

-- what the words ask for: a command, and where they are no command's the usage text
abbrev pub Asks : List (List ℕ) → Task → Type 0
Asks words Task.Usage = (t : Task) → ¬ Names words t
Asks words Task.Cut = Names words Task.Cut
Asks words (Task.Check lattice sheet) = Names words (Task.Check lattice sheet)
Asks words (Task.Script keep) = Names words (Task.Script keep)
Asks words (Task.Generate seed count) = Names words (Task.Generate seed count)
Asks words (Task.Serve port connections keep) = Names words (Task.Serve port connections keep)

abbrev pub usage_text : List ℕ
usage_text =
    codes "usage: oriedit cut\n       oriedit check [--d N] [--k N] [--tol N] [--w N] [--h N]\n"
    ++ (codes "       oriedit script [--keep PATH]\n       oriedit generate SEED COUNT\n"
    ++ codes "       oriedit serve PORT [--connections N] [--keep PATH]\nnumbers are plain decimal digits\n")

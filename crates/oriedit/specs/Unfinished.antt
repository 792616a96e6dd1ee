-- A unit of a script of which not all was taken yet.
use Rattle.std.specs.Prelude.{◌≡◌, ℕ, zero, suc, ◌+◌, Bool, true, false, List, [], ◌∷◌, ◌++◌, All, Contains}
use Rattle.std.specs.Prelude.{length}
use Rattle.std.specs.List.{concat}
use Rattle.lines.specs.Lines.{IsLine}
use Rattle.commands.specs.Lines.{IsWanted}
use Rattle.oriedit.specs.Units.{IsUnit}

-- a first line and some lines behind it, so many fewer than it wants, and what was taken of the next one
pub record Lacks (bytes : List ℕ) (wanted : ℕ) : Type 0 where
  pub first : List ℕ
  pub more : List (List ℕ)
  pub begun : List ℕ
  pub all : bytes ≡ (first ++ 10 ∷ []) ++ (concat more ++ begun)
  pub one : ¬ Contains first 10
  pub lines : All IsLine more
  pub wants : IsWanted first (length more + wanted)
  pub unfinished : ¬ Contains begun 10

-- what was taken of its first line, or of the lines that are wanted behind that
abbrev pub IsUnfinished : List ℕ → ℕ → Type 0
IsUnfinished bytes zero = ¬ Contains bytes 10
IsUnfinished bytes (suc wanted) = Lacks bytes (suc wanted)

-- a line was ended: the unit is whole, or lacks lines
abbrev pub EndsLine : List ℕ → ℕ → Bool → Type 0
EndsLine bytes wanted true = IsUnit bytes × (wanted ≡ 0)
EndsLine bytes wanted false = IsUnfinished bytes wanted

-- The units of a script, one after another: a line, and behind that of an import the lines that belong to it.
use Rattle.std.specs.Prelude.{◌≡◌, ℕ, List, [], ◌∷◌, ◌++◌, All, Contains, length}
use Rattle.std.specs.List.{concat}
use Rattle.lines.specs.Lines.{IsLine}
use Rattle.commands.specs.Lines.{IsWanted}

-- a whole unit: a line, and as many lines after it as it wants, each with its line feed
pub record IsUnit (unit : List ℕ) : Type 0 where
  pub first : List ℕ
  pub more : List (List ℕ)
  pub all : unit ≡ (first ++ 10 ∷ []) ++ concat more
  pub one : ¬ Contains first 10
  pub lines : All IsLine more
  pub wanted : IsWanted first (length more)

-- no whole unit stands at the front of the bytes
abbrev pub HasNoUnit : List ℕ → Type 0
HasNoUnit bytes = (unit later : List ℕ) → bytes ≡ unit ++ later → ¬ IsUnit unit

-- the first whole units of some bytes, in order, and what stands behind them
pub record StandsFirst (bytes : List ℕ) (units : List (List ℕ)) (rest : List ℕ) : Type 0 where
  pub all : bytes ≡ concat units ++ rest
  pub each : All IsUnit units

-- all whole units of some bytes, in order, and what stands behind the last of them
pub record AreUnits (bytes : List ℕ) (units : List (List ℕ)) (rest : List ℕ) : Type 0 where
  pub first : StandsFirst bytes units rest
  pub unfinished : HasNoUnit rest

-- The last unit of bytes that have ended: what stands behind the whole ones. Its last line may lack the line
-- feed, and lines that its first one wants may be lacking.
abbrev pub last_unit : List ℕ → List (List ℕ)
last_unit [] = []
last_unit (b ∷ bytes) = (b ∷ bytes) ∷ []

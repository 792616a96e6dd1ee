-- The lines of a text, one after another.
use Rattle.std.specs.Prelude.{◌≡◌, ◌≢◌, ℕ, ◌⊎◌, List, [], ◌∷◌, ◌++◌, All, Contains}
use Rattle.std.specs.List.{concat}

-- a line with its line feed
pub record IsLine (unit : List ℕ) : Type 0 where
  pub line : List ℕ
  pub ends : unit ≡ line ++ 10 ∷ []
  pub one : ¬ Contains line 10

-- the first line of some bytes, and what stands behind it
pub record IsFirst (bytes first later : List ℕ) : Type 0 where
  pub whole : bytes ≡ first ++ later
  pub line : IsLine first

-- the whole lines of some bytes, in order, and what stands behind the last of them
pub record AreLines (bytes : List ℕ) (units : List (List ℕ)) (rest : List ℕ) : Type 0 where
  pub all : bytes ≡ concat units ++ rest
  pub lines : All IsLine units
  pub unfinished : ¬ Contains rest 10

abbrev pub EndsInReturn : List ℕ → Type 0
EndsInReturn bytes = (front : List ℕ) × (bytes ≡ front ++ 13 ∷ [])

-- the bytes without one CR at their end, if there is one
abbrev pub IsBare : List ℕ → List ℕ → Type 0
IsBare bytes line = (bytes ≡ line ++ 13 ∷ []) ⊎ ((bytes ≡ line) × (¬ EndsInReturn bytes))

-- the first line of a text, without its LF and the CR before it, and the bytes behind that LF
pub record IsFirstLine (text line after : List ℕ) : Type 0 where
  pub bytes : List ℕ
  pub first : ¬ Contains bytes 10
  pub whole : (text ≡ bytes ++ 10 ∷ after) ⊎ ((text ≡ bytes) × (after ≡ []))
  pub bare : IsBare bytes line

-- some lines of a text from its front on, each as a first line, and the bytes behind them
abbrev pub AreFirstLines : List ℕ → List (List ℕ) → List ℕ → Type 0
AreFirstLines text [] rest = text ≡ rest
AreFirstLines text (line ∷ lines) rest =
    (text ≢ []) × (after : List ℕ) × IsFirstLine text line after × AreFirstLines after lines rest

-- The words of a line, and where they stand.
use Rattle.std.specs.Prelude.{◌≡◌, ◌≢◌, ℕ, ◌+◌, ◌<◌, ◌⊎◌, ◌↔◌, List, [], ◌∷◌, ◌++◌, length, All, AllPairs}
use Rattle.std.specs.Prelude.{Contains}

-- a space or a tab
abbrev pub IsBlank : ℕ → Type 0
IsBlank b = (b ≡ 32) ⊎ (b ≡ 9)

-- The bytes of a word, and the place of the first of them in its line, counted from 1.
pub record Word : Type 0 where
  pub column : ℕ
  pub text : List ℕ

-- the last byte is a blank, if there is one
abbrev pub EndsBlank : List ℕ → Type 0
EndsBlank [] = Unit {0}
EndsBlank (b ∷ []) = IsBlank b
EndsBlank (b ∷ c ∷ bytes) = EndsBlank (c ∷ bytes)

-- the first byte is a blank, if there is one
abbrev pub BeginsBlank : List ℕ → Type 0
BeginsBlank [] = Unit {0}
BeginsBlank (b ∷ bytes) = IsBlank b

-- a word of the line: some bytes without a blank, and no other beside them
pub record IsWord (line : List ℕ) (word : Word) : Type 0 where
  pub before : List ℕ
  pub after : List ℕ
  pub whole : line ≡ before ++ (word.text ++ after)
  pub column : word.column ≡ length before + 1
  pub some : word.text ≢ []
  pub solid : All (λ b. ¬ IsBlank b) word.text
  pub left : EndsBlank before
  pub right : BeginsBlank after

-- all words of the line, from left to right
pub record AreWords (line : List ℕ) (words : List Word) : Type 0 where
  pub ascend : AllPairs (λ (v w : Word). v.column < w.column) words
  pub all : (word : Word) → Contains words word ↔ IsWord line word

-- The words of a line from some word on, and the column of a word that is missing behind them.
pub record Left : Type 0 where
  pub words : List Word
  pub missing : ℕ

-- with this word before them
abbrev pub before : Word → Left → Left
before word left = record { words = word ∷ left.words; missing = left.missing }

-- What words give to arguments, as it is read: the first one first.
use Rattle.std.specs.Prelude.{◌≡◌, ◌==◌, ℕ, List, ◌∷◌, ◌++◌, All, Option, Some, None, if◌then◌else◌, nat_lt}
use Rattle.std.specs.Prelude.{length}
use Rattle.std.specs.List.{before_first, after_first, position_or_len}
use Rattle.words.specs.Grammar.{Given, option_word, IsValue, AreFor, AreWritten, Gives, IsTextOf}
use Rattle.words.specs.declared.argument.Argument.{Argument}

-- `NAME` or `NAME=VALUE`, cut at the first `=` (61)
abbrev pub cut_at_equals : List ℕ → List ℕ × Option (List ℕ)
cut_at_equals word =
    if nat_lt (position_or_len (λ b. b == 61) word) (length word)
    then (before_first (λ b. b == 61) word, Some (after_first (λ b. b == 61) word)) else (word, None)

-- The value behind `=`, if there is one, and the words behind the option give this value, and leave
-- these words.
abbrev pub IsFound : Option (List ℕ) → List (List ℕ) → List ℕ → List (List ℕ) → Type 0
IsFound (Some own) later value behind = (value ≡ own) × (behind ≡ later)
IsFound None later value behind = later ≡ value ∷ behind

-- the words begin with this value for an argument, and these words are left
pub record IsFirst (words : List (List ℕ)) (g : Given) (behind : List (List ℕ)) : Type 0 where
  pub own : List (List ℕ)
  pub whole : words ≡ own ++ behind
  pub written : AreFor (option_word g.argument) g.value own
  pub value : IsValue g.value

-- no argument is given a value first
abbrev pub HasNoFirst : List (List ℕ) → Type 0
HasNoFirst words = (g : Given) (behind : List (List ℕ)) → ¬ IsFirst words g behind

-- the words give values to some of these arguments, each at most once
abbrev pub GiveTo : List Argument → List (List ℕ) → Type 0
GiveTo arguments words = (given : List Given) × Gives arguments given words

-- what words that give values give to an argument
abbrev pub TextBy : List (List ℕ) → Argument → Option (List ℕ) → Type 0
TextBy words a text =
    (given : List Given) → AreWritten given words → All (λ g. IsValue g.value) given → IsTextOf given a text

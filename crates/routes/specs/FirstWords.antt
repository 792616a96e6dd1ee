-- The first word of a text.
use Rattle.std.specs.Prelude.{◌≡◌, ◌==◌, ◌||◌, ℕ, Bool, List, ◌++◌, All}
use Rattle.vocabulary.specs.Verbs.{verb_text}
use Rattle.vocabulary.specs.declared.verb.Verb.{Verb}
use Rattle.routes.specs.Edits.{IsEnd, EndsWord}

abbrev pub is_end : ℕ → Bool
is_end b = (b == 32) || ((b == 9) || ((b == 13) || (b == 10)))

-- the bytes before the first that ends a word, and what stands behind them
pub record IsFirstWord (text word behind : List ℕ) : Type 0 where
  pub whole : text ≡ word ++ behind
  pub solid : All (λ b. ¬ IsEnd b) word
  pub ends : EndsWord behind

-- the first word of the text is that of a command
pub record BeginsWithVerb (text : List ℕ) : Type 0 where
  pub verb : Verb
  pub behind : List ℕ
  pub spelled : text ≡ verb_text verb ++ behind
  pub stops : EndsWord behind

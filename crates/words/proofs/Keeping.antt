-- Which words name the option of a keeper.
use Rattle.std.proofs.Common.{◌≡◌, ℕ, List, ◌∷◌, subst, sym}
use Rattle.words.specs.Keep.{NamesKeep, HasKeep}
use Rattle.words.proofs.Elements.{has_behind, not_first}

pub keep_behind : (words rest : List (List ℕ)) (word : List ℕ) → words ≡ word ∷ rest → HasKeep rest → HasKeep words
keep_behind words rest word e (w, h, n) = (w, has_behind words rest word w e h, n)

pub keep_not_first : (words rest : List (List ℕ)) (word : List ℕ) → words ≡ word ∷ rest → ¬ NamesKeep word
    → HasKeep words → HasKeep rest
keep_not_first words rest word e other (w, h, n) =
    (w, not_first words rest word w e (λ f. other (subst NamesKeep (sym f) n)) h, n)

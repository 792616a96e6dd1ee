-- What a loop of tests tells of a list.
use Rattle.std.proofs.Common.{◌≡◌, ℕ, ◌+◌, ◌<◌, ◌≤◌, Bool, true, false, List, length, get_or, take, refl, sym, subst, ◌∙◌, [], ◌∷◌, ◌++◌, ap}
use Rattle.std.specs.Prelude.{◌↔◌, IsTrue, All, not}
use Rattle.std.proofs.lemmas.List.{take_all, take_more}
use Rattle.std.proofs.lemmas.List.Elements.{All-more}

-- the first i + 1 are the first i and one more
pub more_taken : {X : Type 0} (xs : List X) (i : ℕ) (x : X) → i < length xs → x ≡ get_or xs i x → take i xs ++ x ∷ [] ≡ take (i + 1) xs
more_taken xs i x l e = ap (λ y. take i xs ++ y ∷ []) e ∙ sym (take_more xs i x l)

pub all_next : {X : Type 0} (P : X → Type 0) (xs : List X) (i : ℕ) (x : X) → i < length xs → x ≡ get_or xs i x → All P (take i xs) → P x → All P (take (i + 1) xs)
all_next P xs i x l e h p = All-more P xs i x l h (subst P e p)

pub all_tested : {X : Type 0} (P : X → Type 0) (xs : List X) (i : ℕ) → length xs ≤ i → All P (take i xs) → All P xs
all_tested P xs i l h = subst (All P) (take_all i xs l) h

pub one_fails : {X : Type 0} (P : X → Type 0) (xs : List X) (i : ℕ) (x : X) → i < length xs → x ≡ get_or xs i x → (¬ P x) → ¬ All P xs
one_fails P xs i x l e n h = n (subst P (sym e) (h i x l))

-- what a test that fails, or that holds, tells
pub refuted : {P : Type 0} (b : Bool) → b ≡ false → IsTrue b ↔ P → ¬ P
refuted b e h p = (let k = h.1 p in cc)

pub shown : {P : Type 0} (b : Bool) → b ≡ true → IsTrue b ↔ P → P
shown b e h = h.0 e

pub answers_no : (P : Type 0) → (¬ P) → IsTrue false ↔ P
answers_no P n = (λ h. cc, λ p. absurd (n p))

pub answers_yes : (P : Type 0) → P → IsTrue true ↔ P
answers_yes P p = (λ h. p, λ q. refl)

pub answers_not : (b : Bool) (P : Type 0) → b ≡ false → (¬ P) → IsTrue b ↔ P
answers_not b P e n = (λ h. absurd (let k = sym e ∙ h in cc), λ p. absurd (n p))

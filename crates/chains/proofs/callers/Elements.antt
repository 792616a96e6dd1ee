-- Elements of lists, and the places of bytes.
use Rattle.std.proofs.Common.{◌≡◌, ◌≢◌, ◌==◌, ℕ, zero, suc, ◌<◌, ◌≤◌, Bool, true, false, cond, List, [], ◌∷◌, length, Some, None, refl, sym, ◌∙◌, ◌⊎◌, inl, inr, arith}
use Rattle.std.specs.Prelude.{Contains, slice_index_or, position, nat_lt}
use Rattle.std.specs.List.{position_or_len}
use Rattle.std.proofs.lemmas.Bool.{eqb-true}
use Rattle.std.proofs.lemmas.Bool.Decides.{nat_tests}

-- elements of a list with one more in front
pub head_has : {X : Type 0} (x y : X) (xs : List X) → x ≡ y → Contains (x ∷ xs) y
head_has x y xs e = (0, omega arith, e)

pub tail_has : {X : Type 0} (x y : X) (xs : List X) → Contains xs y → Contains (x ∷ xs) y
tail_has x y xs c = (suc c.0, (let l = c.1 in omega arith), c.2)

has_by : {X : Type 0} (x y : X) (xs : List X) (i : ℕ) → i < length (x ∷ xs)
    → slice_index_or (x ∷ xs) i y ≡ y → (x ≡ y) ⊎ Contains xs y
has_by x y xs zero l e = inl e
has_by x y xs (suc i) l e = inr (i, omega arith, e)

pub has_cases : {X : Type 0} (x y : X) (xs : List X) → Contains (x ∷ xs) y → (x ≡ y) ⊎ Contains xs y
has_cases x y xs c = has_by x y xs c.0 c.1 c.2

pub has_none : {X : Type 0} (y : X) → Contains [] y → ⊥
has_none y c = let l = c.1 in omega arith

-- whether a list has elements, as its length tells
pub no_elements : {X : Type 0} (xs : List X) (b : Bool) → b ≡ (length xs == 0) → b ≡ true → xs ≡ []
no_elements [] b e f = refl
no_elements (x ∷ xs) b e f = absurd (let l : length (x ∷ xs) ≡ 0 = eqb-true (length (x ∷ xs)) 0 (sym e ∙ f) in omega (arith, l))

pub some_elements : {X : Type 0} (xs : List X) (b : Bool) → b ≡ (length xs == 0) → b ≡ false → xs ≢ []
some_elements [] b e f = λ h. cc
some_elements (x ∷ xs) b e f = λ h. cc

-- the parts of equal lists
pub same_heads : {b c : ℕ} {bs cs : List ℕ} → b ∷ bs ≡ c ∷ cs → b ≡ c
same_heads e = cc

pub same_tails : {b c : ℕ} {bs cs : List ℕ} → b ∷ bs ≡ c ∷ cs → bs ≡ cs
same_tails e = cc

pub below_yes : (m n : ℕ) → nat_lt m n ≡ true → m < n
below_yes m n e = grind (arith, nat_tests)

pub below_no : (m n : ℕ) → nat_lt m n ≡ false → n ≤ m
below_no m n e = grind (arith, nat_tests)

some_place : (b : Bool) (n i : ℕ) → cond b (Some n) None ≡ Some i → (b ≡ true) × (n ≡ i)
some_place true n i e = (refl, cc)
some_place false n i e = absurd cc

pub no_place : (b : Bool) (n : ℕ) → cond b (Some n) None ≡ None → b ≡ false
no_place true n e = absurd cc
no_place false n e = refl

-- where a place stands, as `position` gives it
pub placed : (p : ℕ → Bool) (bytes : List ℕ) (i : ℕ) → position p bytes ≡ Some i
    → (position_or_len p bytes < length bytes) × (position_or_len p bytes ≡ i)
placed p bytes i e = let h = some_place (nat_lt (position_or_len p bytes) (length bytes)) (position_or_len p bytes) i e in (below_yes (position_or_len p bytes) (length bytes) h.0, h.1)

pub unplaced : (p : ℕ → Bool) (bytes : List ℕ) → position p bytes ≡ None
    → length bytes ≤ position_or_len p bytes
unplaced p bytes e = below_no (position_or_len p bytes) (length bytes) (no_place (nat_lt (position_or_len p bytes) (length bytes)) (position_or_len p bytes) e)

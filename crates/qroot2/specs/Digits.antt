-- Digit strings and what they are worth, byte by byte.
use Rattle.std.specs.Prelude.{◌≡◌, ◌≢◌, ℕ, suc, ◌+◌, ◌-◌, ◌*◌, ◌<◌, ◌≤◌, ◌^◌, List, [], ◌∷◌, length, min, ℤ}
use Rattle.std.specs.Prelude.{pos, negsuc, neg_ℤ, slice_index}
use Rattle.qroot2.specs.Text.{numeral, signed_text, both_text}

-- a digit string: no leading zero unless it is `0` itself
abbrev pub AllDigits : List ℕ → Type 0
AllDigits [] = Unit {0}
AllDigits (c ∷ cs) = (48 ≤ c) × (c ≤ 57) × AllDigits cs

pub record IsNumeral (ds : List ℕ) : Type 0 where
  pub digits : AllDigits ds
  pub some : 0 < length ds
  pub lead : slice_index ds 0 ≡ 48 → length ds ≡ 1

-- the value of digits behind a value
abbrev pub value_on : ℕ → List ℕ → ℕ
value_on v [] = v
value_on v (c ∷ cs) = value_on (10 * v + (c - 48)) cs

-- no byte is c
abbrev pub Lacks : ℕ → List ℕ → Type 0
Lacks c [] = Unit {0}
Lacks c (x ∷ xs) = (x ≢ c) × Lacks c xs

-- A size as the reader keeps it: all that are out of the limits are one.
abbrev pub capped_size : ℕ → ℕ
capped_size n = min n (2 ^ 48 + 1)

abbrev pub capped : ℤ → ℤ
capped (pos n) = pos (capped_size n)
capped (negsuc n) = neg_ℤ (pos (capped_size (suc n)))

-- whole is the text of a, and root that of n, neither of them 0
pub record AreSummands (a : ℤ) (n : ℕ) (whole root : List ℕ) : Type 0 where
  pub whole_some : a ≢ pos 0
  pub root_some : 0 < n
  pub whole_text : signed_text a ≡ whole
  pub root_text : numeral n ≡ root

-- bytes is the text of a and b, and b is not 0
pub record AreBoth (a b : ℤ) (bytes : List ℕ) : Type 0 where
  pub some : b ≢ pos 0
  pub text : both_text a b ≡ bytes

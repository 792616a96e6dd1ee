-- The text of a number, spelled once: digit strings, signed ones, the numerator, and the whole.
use Rattle.std.specs.Prelude.{◌≡◌, ℕ, zero, suc, ◌+◌, ◌/◌, ◌%◌, ◌<◌, ◌≤◌, ◌^◌, ℤ, pos, negsuc, unsigned_abs}
use Rattle.std.specs.Prelude.{List, [], ◌∷◌, ◌++◌, true, false, nat_lt, Result, Ok, Err}
use Rattle.exact.specs.Number.{ExactNumber, IsCanonical, IsLowest}
use Rattle.qroot2.specs.declared.text.NumText.{NumText}
use Rattle.qroot2.specs.declared.text.NumText.TheVariants.{Syntax, Range}

-- the last fuel decimal digits
unfoldable pub numeral_by : ℕ → ℕ → List ℕ
numeral_by zero n = []
numeral_by (suc fuel) n = elim
    (nat_lt n 10) [ true ↦ (48 + n) ∷ [] | false ↦ numeral_by fuel (n / 10) ++ (48 + n % 10) ∷ [] ]

-- the decimal digits of a number of any size, with no leading zero
unfoldable pub numeral : ℕ → List ℕ
numeral n = numeral_by (suc n) n

-- with `-` before those of a number below 0
abbrev pub signed_text : ℤ → List ℕ
signed_text (pos n) = numeral n
signed_text (negsuc n) = 45 ∷ numeral (suc n)

-- `+` or `-` and the size, as a second summand
abbrev pub summand_text : ℤ → List ℕ
summand_text (pos n) = 43 ∷ numeral n
summand_text (negsuc n) = 45 ∷ numeral (suc n)

-- a and b of a + b √2, where b is not 0; an a of 0 is left out
abbrev pub both_text : ℤ → ℤ → List ℕ
both_text (pos zero) b = signed_text b
both_text (pos (suc n)) b = signed_text (pos (suc n)) ++ summand_text b
both_text (negsuc n) b = signed_text (negsuc n) ++ summand_text b

-- a + b √2, with the letter r for √2
abbrev pub numerator_text : ℤ → ℤ → List ℕ
numerator_text a (pos zero) = signed_text a
numerator_text a (pos (suc n)) = both_text a (pos (suc n)) ++ 114 ∷ []
numerator_text a (negsuc n) = both_text a (negsuc n) ++ 114 ∷ []

-- a denominator of 1 is left out
abbrev pub denominator_text : ℕ → List ℕ
denominator_text zero = []
denominator_text (suc zero) = []
denominator_text (suc (suc n)) = 47 ∷ numeral (suc (suc n))

abbrev pub number_text : ExactNumber → List ℕ
number_text x = numerator_text x.a x.b ++ denominator_text x.d

-- a, b and d are within the limits of numbers that can be held
pub record IsWithinLimits (x : ExactNumber) : Type 0 where
  pub a : unsigned_abs x.a ≤ 2 ^ 48
  pub b : unsigned_abs x.b ≤ 2 ^ 48
  pub d : x.d ≤ 2 ^ 20

-- What reading bytes as a number answers. Ok: they are the text of the number. Range: they are that
-- of a triple out of the limits. Syntax: each triple with that text is within the limits and not in
-- lowest terms, if there is one.
abbrev pub Reads : List ℕ → Result ExactNumber NumText → Type 0
Reads bytes (Ok n) = IsCanonical n × (number_text n ≡ bytes)
Reads bytes (Err Range) = (x : ExactNumber) × (0 < x.d) × (number_text x ≡ bytes) × (¬ IsWithinLimits x)
Reads bytes (Err Syntax) = (x : ExactNumber) → 0 < x.d → number_text x ≡ bytes → IsWithinLimits x
    × (¬ IsLowest x)

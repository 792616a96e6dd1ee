-- Decimals with a sign, a point and an exponent, and what they are worth.
use Rattle.std.specs.Prelude.{◌≡◌, ℕ, suc, ◌+◌, ◌*◌, ◌/◌, ◌≤◌, ◌^◌, ◌⊎◌, Bool, true, false, List, [], ◌∷◌}
use Rattle.std.specs.Prelude.{◌++◌, length, min, ℤ, pos, negsuc, ◌+ℤ◌, ◌-ℤ◌, neg_ℤ}
use Rattle.qroot2.specs.Digits.{AllDigits, value_on}

-- `+`, `-` or no sign
abbrev pub IsSign : List ℕ → Bool → Type 0
IsSign sign minus = ((sign ≡ 45 ∷ []) × (minus ≡ true)) ⊎ (((sign ≡ 43 ∷ []) ⊎ (sign ≡ [])) × (minus ≡ false))

-- n with this sign
abbrev pub signed : Bool → ℕ → ℤ
signed true n = neg_ℤ (pos n)
signed false n = pos n

-- a sign or none and one to three digits
pub record IsSmall (bytes : List ℕ) (e : ℤ) : Type 0 where
  pub sign : List ℕ
  pub digits : List ℕ
  pub minus : Bool
  pub text : bytes ≡ sign ++ digits
  pub is_sign : IsSign sign minus
  pub are_digits : AllDigits digits
  pub some : 1 ≤ length digits
  pub few : length digits ≤ 3
  pub value : e ≡ signed minus (value_on 0 digits)

-- the exponent at the end of a decimal: nothing, which is 0, or `e` or `E` and a small number
abbrev pub IsExponent : List ℕ → ℤ → Type 0
IsExponent [] e = e ≡ pos 0
IsExponent (b ∷ bytes) e = ((b ≡ 101) ⊎ (b ≡ 69)) × IsSmall bytes e

-- A decimal: whether it has a minus sign, its digits before and behind the point, and its exponent.
pub record Decimal : Type 0 where
  pub minus : Bool
  pub before : List ℕ
  pub behind : List ℕ
  pub exponent : ℤ

-- The bytes spell the decimal: a sign or none, digits with at most one point among, before or
-- behind them, at least one digit, and an exponent or none.
pub record Spells (bytes : List ℕ) (decimal : Decimal) : Type 0 where
  pub sign : List ℕ
  pub point : List ℕ
  pub tail : List ℕ
  pub text : bytes ≡ sign ++ (decimal.before ++ (point ++ (decimal.behind ++ tail)))
  pub is_sign : IsSign sign decimal.minus
  pub is_point : (point ≡ 46 ∷ []) ⊎ ((point ≡ []) × (decimal.behind ≡ []))
  pub before_digits : AllDigits decimal.before
  pub behind_digits : AllDigits decimal.behind
  pub some : 1 ≤ length decimal.before + length decimal.behind
  pub exponent : IsExponent tail decimal.exponent

-- n · 10^k without its fraction
abbrev pub scaled : ℕ → ℤ → ℕ
scaled n (pos k) = n * 10 ^ k
scaled n (negsuc k) = n / 10 ^ suc k

-- With N the number of all digits, f of them behind the point, and the exponent e: the value N ·
-- 10^(e - f) in units of 10^-12, cut toward zero.
abbrev pub units_of : Decimal → ℤ
units_of decimal =
    signed decimal.minus
    (scaled (value_on 0 (decimal.before ++ decimal.behind))
    ((decimal.exponent +ℤ pos 12) -ℤ pos (length decimal.behind)))

-- the bytes are a decimal of so many units of 10^-12
abbrev pub IsDecimal : List ℕ → ℤ → Type 0
IsDecimal bytes units = (decimal : Decimal) × Spells bytes decimal × (units ≡ units_of decimal)

-- the least size from which on all are read as one
abbrev pub cap : ℕ
cap = 10 ^ 30 + 1

-- the same, with sizes above 10^30 as 10^30 + 1
abbrev pub capped : ℤ → ℤ
capped (pos n) = pos (min n cap)
capped (negsuc n) = neg_ℤ (pos (min (suc n) cap))

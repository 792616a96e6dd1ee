-- A whole number of units of 10^-12, written as a decimal.
use Rattle.std.specs.Prelude.{ℕ, zero, suc, ◌+◌, ◌/◌, ◌%◌, ◌^◌, List, [], ◌∷◌, ◌++◌, ℤ, pos, negsuc}
use Rattle.qroot2.specs.Text.{numeral}

-- the last digits, as many as count, with zeros in front where the number has fewer
unfoldable pub last_digits : ℕ → ℕ → List ℕ
last_digits zero n = []
last_digits (suc count) n = last_digits count (n / 10) ++ (48 + n % 10) ∷ []

-- so many units: the whole part with no leading zero, a point, and twelve digits
unfoldable pub size_text : ℕ → List ℕ
size_text n = numeral (n / 10 ^ 12) ++ 46 ∷ last_digits 12 (n % 10 ^ 12)

-- with `-` before those of a number below 0
abbrev pub decimal_text : ℤ → List ℕ
decimal_text (pos n) = size_text n
decimal_text (negsuc n) = 45 ∷ size_text (suc n)

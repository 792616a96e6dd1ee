-- The digits that are written are those of the text, and how many there are.
use Rattle.std.proofs.Common.{◌≡◌, ℕ, suc, ◌<◌, ◌≤◌, ◌^◌, length, arith}
use Rattle.std.specs.Fmt.{decimal}
use Rattle.std.proofs.lemmas.Fmt.{AppendsLastDigit, decimal_from_appends, length-decimal-le, length-decimal-le_succ}
use Rattle.qroot2.specs.Text.{numeral, numeral_by}
use Rattle.qroot2.proofs.callers.Numerals.{by_small, by_more}

pub appends : AppendsLastDigit numeral_by
appends = record { one = λ k n h. by_small k n h; more = λ k n h. by_more k n h }

pub numeral_decimal : (n : ℕ) → n < 2 ^ 64 → numeral n ≡ decimal n
unfolding numeral
numeral_decimal n h = decimal_from_appends numeral_by appends (suc n) n h (let l = length-decimal-le_succ n h in omega (arith, l))

pub short_15 : (n : ℕ) → n ≤ 2 ^ 48 → length (numeral n) ≤ 15
short_15 n h = rw (numeral_decimal n (omega arith)) (length-decimal-le 15 n (omega arith) (omega arith) (omega arith))

pub short_7 : (n : ℕ) → n ≤ 2 ^ 20 → length (numeral n) ≤ 7
short_7 n h = rw (numeral_decimal n (omega arith)) (length-decimal-le 7 n (omega arith) (omega arith) (omega arith))

-- The digits that are written are those of the text, and how many there are.
use Rattle.std.proofs.Common.{◌≡◌, ℕ, zero, suc, ◌+◌, ◌*◌, ◌/◌, ◌%◌, ◌<◌, ◌≤◌, ◌^◌, List, [], ◌∷◌, ◌++◌, length, take, drop, ◌-◌, arith, refl, sym, ap, ◌∙◌, length-append}
use Rattle.std.specs.Fmt.{decimal}
use Rattle.std.proofs.Math.Nat.{pow-succ'}
use Rattle.std.proofs.lemmas.Fmt.{AppendsLastDigit, decimal_from_appends_wide, decimal_by_steps_wide, length-decimal-le_wide}
use Rattle.std.proofs.lemmas.List.{take_all}
use Rattle.qroot2.specs.Text.{numeral, numeral_by}
use Rattle.qroot2.proofs.callers.Numerals.{by_small, by_more, numeral_small, numeral_more}
use Rattle.decimals.specs.DecimalText.{last_digits}
use Rattle.qroot2.proofs.callers.Decimals.{appends}

length_small : (n : ℕ) → n < 10 ^ 64 → length (decimal n) ≤ suc n
length_small =
    decimal_by_steps_wide (λ m ds. length ds ≤ suc m) (λ m l. omega arith)
    (λ m ds l h. omega (arith, length-append ds ((48 + m % 10) ∷ [])))

pub numeral_wide : (n : ℕ) → n < 10 ^ 64 → numeral n ≡ decimal n
unfolding numeral
numeral_wide n h = decimal_from_appends_wide numeral_by appends (suc n) n h (length_small n h)

pub short_27 : (n : ℕ) → n < 10 ^ 27 → length (decimal n) ≤ 27
short_27 n h = length-decimal-le_wide 27 n (omega arith) h (omega arith)

pub length_last : (k n : ℕ) → length (last_digits k n) ≡ k
unfolding last_digits
length_last zero n = refl
length_last (suc k) n =
    omega (arith, length-append (last_digits k (n / 10)) ((48 + n % 10) ∷ []), length_last k (n / 10))

-- the digits of a power of 10 and less are a 1 and that many last digits
numeral_last : (k q r : ℕ) → q ≡ 10 ^ k → r < q → numeral (q + r) ≡ 49 ∷ last_digits k r
unfolding last_digits
numeral_last zero q r e h =
    let one : q + r ≡ 1 = omega (arith, e) in
    ap numeral one ∙ numeral_small 1 (omega arith)
numeral_last (suc k) q r e h =
    let p : ℕ = 10 ^ k in
    let ten : q ≡ 10 * p = e ∙ pow-succ' 10 k in
    let front : (q + r) / 10 ≡ p + r / 10 = omega (arith, ten) in
    let last : (q + r) % 10 ≡ r % 10 = omega (arith, ten) in
    numeral_more (q + r) (omega (arith, ten, h))
    ∙ ap (λ c. numeral ((q + r) / 10) ++ (48 + c) ∷ []) last
    ∙ ap (λ m. numeral m ++ (48 + r % 10) ∷ []) front
    ∙ ap (λ ds. ds ++ (48 + r % 10) ∷ []) (numeral_last k p (r / 10) refl (omega (arith, ten)))

pub part_digits : (r : ℕ) → r < 10 ^ 12 → decimal (10 ^ 12 + r) ≡ 49 ∷ last_digits 12 r
part_digits r h = sym (numeral_wide (10 ^ 12 + r) (omega arith)) ∙ numeral_last 12 (10 ^ 12) r refl h

-- the digits behind the first
pub part_written : (ds : List ℕ) (r : ℕ) → ds ≡ decimal (10 ^ 12 + r) → r < 10 ^ 12
    → take (length ds - 1) (drop 1 ds) ≡ last_digits 12 r
part_written ds r e h =
    ap (λ xs. take (length xs - 1) (drop 1 xs)) (e ∙ part_digits r h) ∙ whole (last_digits 12 r)
  where
    whole : (xs : List ℕ) → take (length (49 ∷ xs) - 1) xs ≡ xs
    whole xs = take_all (length (49 ∷ xs) - 1) xs (omega arith)

pub part_length : (r : ℕ) → r < 10 ^ 12 → length (decimal (10 ^ 12 + r)) ≡ 13
part_length r h = ap length (part_digits r h) ∙ ap suc (length_last 12 r)

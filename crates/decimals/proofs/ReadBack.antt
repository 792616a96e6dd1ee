-- A decimal that is written is read as itself.
use Rattle.std.proofs.Common.{◌≡◌, ℕ, zero, suc, ◌+◌, ◌-◌, ◌*◌, ◌/◌, ◌%◌, ◌<◌, ◌^◌, List, [], ◌∷◌, ◌++◌, length, Bool, true, false, arith, refl, sym, ap, ◌∙◌, inl, inr}
use Rattle.std.specs.Prelude.{ℤ, pos, negsuc, ◌+ℤ◌, ◌-ℤ◌}
use Rattle.std.proofs.Math.Nat.{pow-succ'}
use Rattle.std.proofs.lemmas.List.{append-nil}
use Rattle.std.proofs.lemmas.Nat.{div-add-mod', mod_below}
use Rattle.qroot2.specs.Text.{numeral}
use Rattle.qroot2.specs.Digits.{AllDigits, value_on}
use Rattle.qroot2.proofs.callers.Numerals.{value_push, digits_push, value_numeral, numeral_is}
use Rattle.decimals.specs.Decimal.{IsDecimal, IsSign, Spells, Decimal, signed, scaled, units_of}
use Rattle.decimals.specs.DecimalText.{last_digits, size_text, decimal_text}
use Rattle.decimals.proofs.Digits.{length_last}
use Rattle.decimals.proofs.Scaling.{value_append}

last_digits_all : (k n : ℕ) → AllDigits (last_digits k n)
unfolding last_digits
last_digits_all zero n = tt
last_digits_all (suc k) n =
    digits_push (last_digits k (n / 10)) (48 + n % 10) (last_digits_all k (n / 10)) (omega arith) (omega arith)

last_value : (k q v r : ℕ) → q ≡ 10 ^ k → r < q → value_on v (last_digits k r) ≡ v * q + r
unfolding last_digits
last_value zero q v r e h = (let none : r ≡ 0 = omega (arith, e) in rw (none, e) (omega arith))
last_value (suc k) q v r e h =
    let p : ℕ = 10 ^ k in
    let ten : q ≡ 10 * p = e ∙ pow-succ' 10 k in
    let front = last_value k p v (r / 10) refl (omega (arith, ten)) in
    value_push v (last_digits k (r / 10)) (48 + r % 10)
    ∙ step q p v r (value_on v (last_digits k (r / 10))) ten front
  where
    step : (q p v r w : ℕ) → q ≡ 10 * p → w ≡ v * p + r / 10 → 10 * w + (48 + r % 10 - 48) ≡ v * q + r
    step q p v r w e f = rw (e, f) (omega (arith, div-add-mod' r 10))

-- the digits before and behind the point
abbrev parts : ℕ → Bool → Decimal
parts n minus = record {
  minus = minus;
  before = numeral (n / 10 ^ 12);
  behind = last_digits 12 (n % 10 ^ 12);
  exponent = pos 0;
}

parts_value : (n : ℕ) → value_on 0 (numeral (n / 10 ^ 12) ++ last_digits 12 (n % 10 ^ 12)) ≡ n
parts_value n =
    value_append 0 (numeral (n / 10 ^ 12)) (last_digits 12 (n % 10 ^ 12))
    ∙ ap (λ v. value_on v (last_digits 12 (n % 10 ^ 12))) (value_numeral (n / 10 ^ 12))
    ∙ last_value 12 (10 ^ 12) (n / 10 ^ 12) (n % 10 ^ 12) refl (mod_below n (10 ^ 12) (omega arith))
    ∙ div-add-mod' n (10 ^ 12)

parts_units : (n : ℕ) (minus : Bool) → units_of (parts n minus) ≡ signed minus n
parts_units n minus =
    let behind = last_digits 12 (n % 10 ^ 12) in
    ap (signed minus) (whole (length behind) (length_last 12 (n % 10 ^ 12)) ∙ parts_value n)
  where
    whole : {v : ℕ} (l : ℕ) → l ≡ 12 → scaled v ((pos 0 +ℤ pos 12) -ℤ pos l) ≡ v
    whole l e = rw e (omega arith)

spelt : (n : ℕ) (sign : List ℕ) (minus : Bool)
    → IsSign sign minus → Spells (sign ++ size_text n) (parts n minus)
unfolding size_text
spelt n sign minus s = record {
  sign = sign;
  point = 46 ∷ [];
  tail = [];
  text = ap (λ ds. sign ++ (numeral (n / 10 ^ 12) ++ 46 ∷ ds)) (sym (append-nil (last_digits 12 (n % 10 ^ 12))));
  is_sign = s;
  is_point = inl refl;
  before_digits = (numeral_is (n / 10 ^ 12)).digits;
  behind_digits = last_digits_all 12 (n % 10 ^ 12);
  some = omega (arith, length_last 12 (n % 10 ^ 12));
  exponent = refl;
}

pub written_is_decimal : (x : ℤ) → IsDecimal (decimal_text x) x
written_is_decimal (pos n) =
    (parts n false, spelt n [] false (inr (inr refl, refl)), sym (parts_units n false))
written_is_decimal (negsuc n) =
    (parts (suc n) true, spelt (suc n) (45 ∷ []) true (inl (refl, refl)), sym (parts_units (suc n) true))

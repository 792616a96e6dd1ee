-- Digit strings and the numbers that they spell.
use Rattle.std.proofs.Common.{◌≡◌, ◌≢◌, ℕ, zero, suc, ◌<◌, ◌^◌, List, length, get_or, Result, Ok, sym, ap, subst, ◌∙◌, arith, lit<}
use Rattle.std.specs.Prelude.{decimal, IsUtf8}
use Rattle.std.specs.Result.{OkIff}
use Rattle.std.specs.Str.Parse.{AllDigits, digits_value, ParsesUnsigned}
use Rattle.std.proofs.lemmas.Fmt.{decimal_is_IsNumeral, decimal_nonempty, first_decimal, decimal_digit, decimal-digits_value, IsAscii-decimal, parse-decimal}
use Rattle.std.proofs.lemmas.Str.{IsUtf8-from_ascii}
use Rattle.std.proofs.lemmas.Str.Parse.{digit_at, parse_plain}
use Rattle.vocabulary.specs.Numbers.{IsPlain}
use Rattle.vocabulary.proofs.callers.Digits.{by_value}

-- the text of a number is plain
plain_zero : (n : ℕ) → n < 2 ^ 64 → get_or (decimal n) 0 0 ≡ 48 → length (decimal n) ≡ 1
plain_zero zero h e = ap length (decimal_digit 0 (lit< tt))
plain_zero (suc n) h e = (let k = first_decimal (suc n) (omega arith) h in absurd (omega arith))

plain_sign : (n : ℕ) → n < 2 ^ 64 → get_or (decimal n) 0 0 ≢ 43
plain_sign n h e =
    let d = decimal_is_IsNumeral n h in
    let k = digit_at (decimal n) 0 d.0.1 (decimal_nonempty n h) in
    omega (arith, k.0, e)

plain_decimal : (n : ℕ) → n < 2 ^ 64 → IsPlain (decimal n)
plain_decimal n h = record { some = decimal_nonempty n h; sign = plain_sign n h; zeros = plain_zero n h }

pub not_plain : (bytes : List ℕ) (n : ℕ) → n < 2 ^ 64 → ¬ IsPlain bytes → decimal n ≢ bytes
not_plain bytes n h p e = p (subst IsPlain e (plain_decimal n h))

pub not_utf8 : (bytes : List ℕ) (n : ℕ) → n < 2 ^ 64 → ¬ IsUtf8 bytes → decimal n ≢ bytes
not_utf8 bytes n h p e = p (subst IsUtf8 e (IsUtf8-from_ascii (decimal n) (IsAscii-decimal n h)))

-- what `parse` gives for the text of a number
pub parsed : {E : Type 0} (bytes : List ℕ) (n : ℕ) (r : Result ℕ E) → n < 2 ^ 64
    → ParsesUnsigned 64 10 bytes r → decimal n ≡ bytes → r ≡ Ok n
parsed bytes n r h p e = parse-decimal 64 n bytes r h h (sym e) p

spelled : (E : Type 0) (bytes : List ℕ) (v : ℕ) → IsPlain bytes
    → OkIff (let r : Result ℕ E = Ok v in r) (AllDigits 10 bytes × (0 < length bytes) × (digits_value 10 bytes < 2 ^ 64)) (digits_value 10 bytes)
    → decimal v ≡ bytes
spelled E bytes v p h = ap decimal h.1 ∙ decimal-digits_value by_value bytes h.0.0 h.0.1 p.zeros h.0.2

-- a number that `parse` gives for plain bytes has them as its text
pub spells : {E : Type 0} (bytes : List ℕ) (v : ℕ) (r : Result ℕ E) → IsPlain bytes → r ≡ Ok v
    → ParsesUnsigned 64 10 bytes r → decimal v ≡ bytes
spells {E = E} bytes v r p e h =
    spelled E bytes v p
    (subst (λ (x : Result ℕ E). OkIff x (AllDigits 10 bytes × (0 < length bytes) × (digits_value 10 bytes < 2 ^ 64)) (digits_value 10 bytes)) e (parse_plain by_value 64 bytes r h p.sign))

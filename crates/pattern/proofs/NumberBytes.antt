-- No line feed, space or comma stands in the text of a number.
use Rattle.std.proofs.Common.{◌≡◌, ℕ, zero, suc, ◌<◌, ◌≤◌, ◌⊎◌, inl, inr, List, [], ◌∷◌, ◌++◌, arith}
use Rattle.std.specs.Prelude.{Contains, ℤ, pos, negsuc}
use Rattle.std.proofs.lemmas.List.Elements.{Contains-append_cases}
use Rattle.exact.specs.Number.{ExactNumber}
use Rattle.qroot2.specs.Text.{numeral, signed_text, summand_text, both_text, numerator_text, denominator_text, number_text}
use Rattle.qroot2.specs.Digits.{AllDigits}
use Rattle.qroot2.proofs.callers.Numerals.{numeral_is}

-- a line feed, a space or a comma
abbrev pub IsMark : ℕ → Type 0
IsMark b = (b ≡ 10) ⊎ ((b ≡ 32) ⊎ (b ≡ 44))

abbrev Unmarked : List ℕ → Type 0
Unmarked xs = (b : ℕ) → IsMark b → ¬ Contains xs b

low : (b : ℕ) → IsMark b → b ≤ 44
low b (inl e) = omega (arith, e)
low b (inr (inl e)) = omega (arith, e)
low b (inr (inr e)) = omega (arith, e)

-- the sign `+` is between them
not_plus : (b : ℕ) → IsMark b → 43 ≡ b → ⊥
not_plus b (inl e) f = omega (arith, e, f)
not_plus b (inr (inl e)) f = omega (arith, e, f)
not_plus b (inr (inr e)) f = omega (arith, e, f)

none : Unmarked []
none b m c = omega (arith, c.1)

one_more : (x : ℕ) (xs : List ℕ) → ((b : ℕ) → IsMark b → x ≡ b → ⊥) → Unmarked xs → Unmarked (x ∷ xs)
one_more x xs n u b m (zero, h, e) = n b m e
one_more x xs n u b m (suc k, h, e) = u b m (k, omega (arith, h), e)

high_more : (x : ℕ) (xs : List ℕ) → 44 < x → Unmarked xs → Unmarked (x ∷ xs)
high_more x xs h u = one_more x xs (λ b m e. omega (arith, low b m, e)) u

joined : (xs ys : List ℕ) → Unmarked xs → Unmarked ys → Unmarked (xs ++ ys)
joined xs ys u v b m c = elim (Contains-append_cases xs ys b c) [ inl h ↦ u b m h | inr h ↦ v b m h ]

digits : (xs : List ℕ) → AllDigits xs → Unmarked xs
digits [] d = none
digits (x ∷ xs) d = high_more x xs (omega (arith, d.0)) (digits xs d.2)

numeral_unmarked : (n : ℕ) → Unmarked (numeral n)
numeral_unmarked n = digits (numeral n) (numeral_is n).digits

signed : (a : ℤ) → Unmarked (signed_text a)
signed (pos n) = numeral_unmarked n
signed (negsuc n) = high_more 45 (numeral (suc n)) (omega arith) (numeral_unmarked (suc n))

summand : (b : ℤ) → Unmarked (summand_text b)
summand (pos n) = one_more 43 (numeral n) not_plus (numeral_unmarked n)
summand (negsuc n) = high_more 45 (numeral (suc n)) (omega arith) (numeral_unmarked (suc n))

both : (a b : ℤ) → Unmarked (both_text a b)
both (pos zero) b = signed b
both (pos (suc n)) b = joined (signed_text (pos (suc n))) (summand_text b) (signed (pos (suc n))) (summand b)
both (negsuc n) b = joined (signed_text (negsuc n)) (summand_text b) (signed (negsuc n)) (summand b)

letter : Unmarked (114 ∷ [])
letter = high_more 114 [] (omega arith) none

numerator : (a b : ℤ) → Unmarked (numerator_text a b)
numerator a (pos zero) = signed a
numerator a (pos (suc n)) = joined (both_text a (pos (suc n))) (114 ∷ []) (both a (pos (suc n))) letter
numerator a (negsuc n) = joined (both_text a (negsuc n)) (114 ∷ []) (both a (negsuc n)) letter

denominator : (d : ℕ) → Unmarked (denominator_text d)
denominator zero = none
denominator (suc zero) = none
denominator (suc (suc n)) = high_more 47 (numeral (suc (suc n))) (omega arith) (numeral_unmarked (suc (suc n)))

pub number_unmarked : (x : ExactNumber) (b : ℕ) → IsMark b → ¬ Contains (number_text x) b
number_unmarked x = joined (numerator_text x.a x.b) (denominator_text x.d) (numerator x.a x.b) (denominator x.d)

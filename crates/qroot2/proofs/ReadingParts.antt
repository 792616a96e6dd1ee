-- What the parts of the reader answer, as one answer for both outcomes.
use Rattle.std.proofs.Common.{◌≡◌, ◌≢◌, ℕ, zero, suc, ◌<◌, ◌≤◌, List, [], ◌∷◌, ◌++◌, length, arith, refl, sym, ap, ◌∙◌, ◌⊎◌, inl, inr}
use Rattle.std.specs.Prelude.{ℤ, pos, negsuc, neg_ℤ, ◌-ℤ◌, unsigned_abs, Option, Some, None, MatchOption}
use Rattle.std.specs.Int.{cast_signed, cast_unsigned, w64}
use Rattle.std.proofs.lemmas.Int.{ints, to_z-of_z, fits_signed_from_abs}
use Rattle.std.proofs.lemmas.List.{append-nil}
use Rattle.exact.specs.Number.{ExactNumber}
use Rattle.qroot2.specs.Text.{numeral, signed_text, both_text, numerator_text, denominator_text, number_text}
use Rattle.qroot2.specs.Digits.{Lacks, capped, capped_size, AreSummands, AreBoth}
use Rattle.qroot2.specs.declared.text.Numerator.{Numerator}
use Rattle.qroot2.proofs.callers.Numerals.{numeral_injective}
use Rattle.qroot2.proofs.callers.Splits.{lacks_append, lacks_not, split_unique, lacks_numeral}
use Rattle.qroot2.proofs.callers.Reading.{plus_found, plus_none, signed_lacks, capped_abs}

pub plus_read : (o : Option Numerator) (whole root bytes : List ℕ) → Lacks 43 whole → bytes ≡ whole ++ 43 ∷ root
    → MatchOption o ((a : ℤ) (n : ℕ) → AreSummands a n whole root → ⊥) (λ v. (a : ℤ) × (n : ℕ) × AreSummands a n whole root × (v.a ≡ capped a) × (v.b ≡ pos (capped_size n)))
    → MatchOption o ((a b : ℤ) → AreBoth a b bytes → ⊥) (λ v. (a b : ℤ) × AreBoth a b bytes × (v.a ≡ capped a) × (v.b ≡ capped b))
plus_read None whole root bytes l e m = plus_none whole root bytes l e m
plus_read (Some v) whole root bytes l e m = (m.0, pos m.1, plus_found whole root bytes m.0 m.1 e m.2, m.3, m.4)

pub held_kept : (a : ℤ) (z : ℤ) → a ≡ capped z → cast_signed w64 (cast_unsigned w64 a) ≡ capped z
held_kept a z e = to_z-of_z w64 a (fits_signed_from_abs w64 a (let s : unsigned_abs a ≡ capped_size (unsigned_abs z) = ap unsigned_abs e ∙ capped_abs z in omega (arith, s))) ∙ e

pub turned_kept : (b : ℤ) (n : ℕ) → b ≡ pos (capped_size n) → cast_signed w64 (cast_unsigned w64 (pos 0 -ℤ cast_signed w64 (cast_unsigned w64 b))) ≡ capped (neg_ℤ (pos n))
turned_kept b n e = rw (held_kept b (pos n) e) (to_z-of_z w64 (pos 0 -ℤ pos (capped_size n)) (fits_signed_from_abs w64 _ (omega (arith, ints))) ∙ turned n)
  where
    turned : (n : ℕ) → pos 0 -ℤ pos (capped_size n) ≡ capped (neg_ℤ (pos n))
    turned zero = refl
    turned (suc n) = omega (arith, ints)

pub both_lacks : (c : ℕ) (a b : ℤ) → c ≢ 45 → c ≢ 43 → (c < 48) ⊎ (57 < c) → Lacks c (both_text a b)
both_lacks c (pos zero) (pos n) h k o = lacks_numeral c n o
both_lacks c (pos zero) (negsuc n) h k o = ((λ e. h (sym e)), lacks_numeral c (suc n) o)
both_lacks c (pos (suc m)) (pos n) h k o = lacks_append c (numeral (suc m)) (43 ∷ numeral n) (lacks_numeral c (suc m) o) ((λ e. k (sym e)), lacks_numeral c n o)
both_lacks c (pos (suc m)) (negsuc n) h k o = lacks_append c (numeral (suc m)) (45 ∷ numeral (suc n)) (lacks_numeral c (suc m) o) ((λ e. h (sym e)), lacks_numeral c (suc n) o)
both_lacks c (negsuc m) (pos n) h k o = ((λ e. h (sym e)), lacks_append c (numeral (suc m)) (43 ∷ numeral n) (lacks_numeral c (suc m) o) ((λ e. k (sym e)), lacks_numeral c n o))
both_lacks c (negsuc m) (negsuc n) h k o = ((λ e. h (sym e)), lacks_append c (numeral (suc m)) (45 ∷ numeral (suc n)) (lacks_numeral c (suc m) o) ((λ e. h (sym e)), lacks_numeral c (suc n) o))

-- With no letter r, one with nothing behind it, and one with more.
pub whole_none : (bytes : List ℕ) → Lacks 114 bytes → ((z : ℤ) → signed_text z ≡ bytes → ⊥) → (a b : ℤ) → numerator_text a b ≡ bytes → ⊥
whole_none bytes l none a (pos zero) e = none a e
whole_none bytes l none a (pos (suc n)) e = lacks_not 114 (both_text a (pos (suc n))) [] bytes l e
whole_none bytes l none a (negsuc n) e = lacks_not 114 (both_text a (negsuc n)) [] bytes l e

numerator_both : (a b : ℤ) → b ≢ pos 0 → numerator_text a b ≡ both_text a b ++ 114 ∷ []
numerator_both a (pos zero) o = absurd (o refl)
numerator_both a (pos (suc n)) o = refl
numerator_both a (negsuc n) o = refl

pub root_read : (o : Option Numerator) (parts behind bytes : List ℕ) → Lacks 114 parts → bytes ≡ parts ++ 114 ∷ behind → length behind ≡ 0
    → MatchOption o ((a b : ℤ) → AreBoth a b parts → ⊥) (λ v. (a b : ℤ) × AreBoth a b parts × (v.a ≡ capped a) × (v.b ≡ capped b))
    → MatchOption o ((a b : ℤ) → numerator_text a b ≡ bytes → ⊥) (λ v. (a b : ℤ) × (numerator_text a b ≡ bytes) × (v.a ≡ capped a) × (v.b ≡ capped b))
root_read None parts behind bytes l e z m = λ a b t. told a b (t ∙ e)
  where
    pair : (a b : ℤ) → b ≢ pos 0 → both_text a b ++ 114 ∷ [] ≡ parts ++ 114 ∷ behind → ⊥
    pair a b o t = m a b (record { some = o; text = (split_unique 114 (both_text a b) parts [] behind (both_lacks 114 a b (λ f. omega arith) (λ f. omega arith) (inr (omega arith))) l t).0 })

    told : (a b : ℤ) → numerator_text a b ≡ parts ++ 114 ∷ behind → ⊥
    told a (pos zero) t = lacks_not 114 parts behind (signed_text a) (signed_lacks 114 a (λ f. omega arith) (inr (omega arith))) (sym t)
    told a (pos (suc n)) t = pair a (pos (suc n)) (λ f. absurd (cc)) t
    told a (negsuc n) t = pair a (negsuc n) (λ f. absurd (cc)) t
root_read (Some v) parts [] bytes l e z m = (m.0, m.1, numerator_both m.0 m.1 m.2.some ∙ ap (λ ds. ds ++ 114 ∷ []) m.2.text ∙ sym e, m.3, m.4)
root_read (Some v) parts (x ∷ xs) bytes l e z m = absurd (omega arith)

pub behind_none : (parts behind bytes : List ℕ) → Lacks 114 parts → bytes ≡ parts ++ 114 ∷ behind → 0 < length behind → (a b : ℤ) → numerator_text a b ≡ bytes → ⊥
behind_none parts behind bytes l e p a b t = told a b (t ∙ e)
  where
    pair : (a b : ℤ) → both_text a b ++ 114 ∷ [] ≡ parts ++ 114 ∷ behind → ⊥
    pair a b t = (let s = split_unique 114 (both_text a b) parts [] behind (both_lacks 114 a b (λ f. omega arith) (λ f. omega arith) (inr (omega arith))) l t in omega (arith, ap length s.1))

    told : (a b : ℤ) → numerator_text a b ≡ parts ++ 114 ∷ behind → ⊥
    told a (pos zero) t = lacks_not 114 parts behind (signed_text a) (signed_lacks 114 a (λ f. omega arith) (inr (omega arith))) (sym t)
    told a (pos (suc n)) t = pair a (pos (suc n)) t
    told a (negsuc n) t = pair a (negsuc n) t

-- The same of the byte `/`.
pub numerator_lacks : (a b : ℤ) → Lacks 47 (numerator_text a b)
numerator_lacks a (pos zero) = signed_lacks 47 a (λ f. omega arith) (inl (omega arith))
numerator_lacks a (pos (suc n)) = lacks_append 47 (both_text a (pos (suc n))) (114 ∷ []) (both_lacks 47 a (pos (suc n)) (λ f. omega arith) (λ f. omega arith) (inl (omega arith))) ((λ f. omega arith), tt)
numerator_lacks a (negsuc n) = lacks_append 47 (both_text a (negsuc n)) (114 ∷ []) (both_lacks 47 a (negsuc n) (λ f. omega arith) (λ f. omega arith) (inl (omega arith))) ((λ f. omega arith), tt)

pub over_one_none : (bytes : List ℕ) → Lacks 47 bytes → ((a b : ℤ) → numerator_text a b ≡ bytes → ⊥) → (x : ExactNumber) → 0 < x.d → number_text x ≡ bytes → ⊥
over_one_none bytes l none x p t = told x.d p t
  where
    told : (d : ℕ) → 0 < d → numerator_text x.a x.b ++ denominator_text d ≡ bytes → ⊥
    told zero p t = omega arith
    told (suc zero) p t = none x.a x.b (sym (append-nil (numerator_text x.a x.b)) ∙ t)
    told (suc (suc d)) p t = lacks_not 47 (numerator_text x.a x.b) (numeral (suc (suc d))) bytes l t

pub over_one_found : (bytes : List ℕ) (a b : ℤ) → numerator_text a b ≡ bytes → number_text (record { a = a; b = b; d = 1 }) ≡ bytes
over_one_found bytes a b t = append-nil (numerator_text a b) ∙ t

-- what stands before and behind the `/` of a number's text
pub over_parts : (over under bytes : List ℕ) → Lacks 47 over → bytes ≡ over ++ 47 ∷ under → (x : ExactNumber) → 0 < x.d → number_text x ≡ bytes → (numerator_text x.a x.b ≡ over) × (numeral x.d ≡ under) × (2 ≤ x.d)
over_parts over under bytes l e x p t = told x.d p (t ∙ e)
  where
    told : (d : ℕ) → 0 < d → numerator_text x.a x.b ++ denominator_text d ≡ over ++ 47 ∷ under → (numerator_text x.a x.b ≡ over) × (numeral d ≡ under) × (2 ≤ d)
    told zero p t = absurd (omega arith)
    told (suc zero) p t = absurd (lacks_not 47 over under (numerator_text x.a x.b) (numerator_lacks x.a x.b) (sym (sym (append-nil (numerator_text x.a x.b)) ∙ t)))
    told (suc (suc d)) p t = (let s = split_unique 47 (numerator_text x.a x.b) over (numeral (suc (suc d))) under (numerator_lacks x.a x.b) l t in (s.0, s.1, omega arith))

pub over_found : (over under bytes : List ℕ) (a b : ℤ) (d : ℕ) → bytes ≡ over ++ 47 ∷ under → numerator_text a b ≡ over → numeral d ≡ under → 2 ≤ d → number_text (record { a = a; b = b; d = d }) ≡ bytes
over_found over under bytes a b zero e f g h = absurd (omega arith)
over_found over under bytes a b (suc zero) e f g h = absurd (omega arith)
over_found over under bytes a b (suc (suc d)) e f g h = rw (f, g) (sym e)

pub over_top_none : (over under bytes : List ℕ) → Lacks 47 over → bytes ≡ over ++ 47 ∷ under → ((a b : ℤ) → numerator_text a b ≡ over → ⊥) → (x : ExactNumber) → 0 < x.d → number_text x ≡ bytes → ⊥
over_top_none over under bytes l e none x p t = none x.a x.b (over_parts over under bytes l e x p t).0

pub over_under_none : (over under bytes : List ℕ) → Lacks 47 over → bytes ≡ over ++ 47 ∷ under → ((n : ℕ) → numeral n ≡ under → ⊥) → (x : ExactNumber) → 0 < x.d → number_text x ≡ bytes → ⊥
over_under_none over under bytes l e none x p t = none x.d (over_parts over under bytes l e x p t).1

-- a denominator below 2 is in no text
pub over_small_none : (over under bytes : List ℕ) (d : ℕ) → Lacks 47 over → bytes ≡ over ++ 47 ∷ under → ((n : ℕ) × (numeral n ≡ under) × (d ≡ capped_size n)) → d < 2 → (x : ExactNumber) → 0 < x.d → number_text x ≡ bytes → ⊥
over_small_none over under bytes d l e s h x p t =
    let parts = over_parts over under bytes l e x p t in
    let same : x.d ≡ s.0 = numeral_injective x.d s.0 (parts.1 ∙ sym s.1) in
    omega (arith, same, parts.2, s.2, h)

pub kept_large : (d n : ℕ) → d ≡ capped_size n → 2 ≤ d → 2 ≤ n
kept_large d n e h = omega (arith, e, h)

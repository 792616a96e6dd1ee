-- Division in the ring: a number times its partner is a whole number, at a det of two directions one from 1 to 8.
use Rattle.std.proofs.Common.{◌≡◌, ◌≢◌, ℕ, suc, ◌%◌, ◌<◌, Bool, true, false, cond, eqb, ltb, refl, ap, ◌∙◌, arith}
use Rattle.std.specs.Prelude.{ℤ, pos, negsuc, neg_ℤ, unsigned_abs}
use Rattle.std.proofs.lemmas.Bool.Decides.{nat_tests}
use Rattle.exact.specs.Plane.{vector}
use Rattle.exact.proofs.Ring.{is_add, is_neg, is_lit, is_atom, is_mul, is_eq}
use Rattle.geometry.specs.Root.{Root, plus, times, minus, count}
use Rattle.geometry.specs.Gap.{num, det, norm, signed_as, partner}
use Rattle.geometry.proofs.RootRing.{both}
use Rattle.geometry.proofs.Lines.{right_minus}
use Rattle.exact.proofs.Turns.{all_below, all_below_at}

flat : ℤ → Root
flat z = record { a = z; b = pos 0 }

conjugate_times : (x : Root) → (let y : Root = record { a = x.a; b = neg_ℤ x.b } in times y x ≡ flat (norm x))
unfolding times flat
conjugate_times x =
    let A = is_atom x.a in let B = is_atom x.b in let two = is_lit 2 in
    both _ _
    (is_eq (is_add (is_mul A A) (is_mul two (is_mul (is_neg B) B))) (is_add (is_mul A A) (is_neg (is_mul two (is_mul B B)))) (omega arith))
    (is_eq (is_add (is_mul A B) (is_mul (is_neg B) A)) (is_lit 0) (omega arith))

flat_pos : (n : ℕ) → flat (pos n) ≡ count n
unfolding flat count
flat_pos n = refl

flat_down : (n : ℕ) → minus (flat (negsuc n)) ≡ count (suc n)
unfolding flat count minus
flat_down n = refl

signed_times : (z : ℤ) (y x : Root) → times y x ≡ flat z → times (signed_as z y) x ≡ count (unsigned_abs z)
signed_times (pos n) y x e = e ∙ flat_pos n
signed_times (negsuc n) y x e = right_minus y x ∙ ap minus e ∙ flat_down n

pub partner_times : (x : Root) → times (partner x) x ≡ count (unsigned_abs (norm x))
partner_times x = signed_times (norm x) _ x (conjugate_times x)

abbrev small_test : ℕ → ℕ → Bool
small_test k j = cond (eqb (k % 8) (j % 8)) true (cond (ltb 0 (unsigned_abs (norm (det (vector j) (vector k))))) (ltb (unsigned_abs (norm (det (vector j) (vector k)))) 9) false)

small_tested : all_below 16 (λ k. all_below 16 (λ j. small_test k j)) ≡ true
unfolding det num plus times minus
small_tested = refl

-- the size of the norm of the det of two directions
pub norm_size : (k j : ℕ) → k < 16 → j < 16 → k % 8 ≢ j % 8 → (0 < unsigned_abs (norm (det (vector j) (vector k)))) × (unsigned_abs (norm (det (vector j) (vector k))) < 9)
norm_size k j p q n = told (k % 8) (j % 8) (unsigned_abs (norm (det (vector j) (vector k)))) n (all_below_at 16 (λ i. small_test k i) (all_below_at 16 (λ i. all_below 16 (λ l. small_test i l)) small_tested k p) j q)
  where
    told : (a b s : ℕ) → a ≢ b → cond (eqb a b) true (cond (ltb 0 s) (ltb s 9) false) ≡ true → (0 < s) × (s < 9)
    told a b s n t = (grind (arith, nat_tests), grind (arith, nat_tests))

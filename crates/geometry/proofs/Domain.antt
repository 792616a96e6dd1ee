-- Signs in the ring: products of numbers above zero, and no zero divisors.
use Rattle.std.proofs.Common.{◌≡◌, ℕ, zero, suc, ◌+◌, ◌-◌, ◌*◌, ◌<◌, [], ◌∷◌, arith, refl, sym, ap, subst, ◌∙◌, ◌⊎◌, inl, inr}
use Rattle.std.specs.Prelude.{ℤ, pos, negsuc, ◌+ℤ◌, ◌*ℤ◌}
use Rattle.std.proofs.lemmas.Int.{ints}
use Rattle.exact.specs.Number.{Positive}
use Rattle.exact.proofs.Ring.{is_add, is_lit, is_atom, is_mul, is_eq}
use Rattle.exact.proofs.Root.{side}
use Rattle.exact.proofs.Positive.{moved, positive_sum, scaled, exclusive}
use Rattle.geometry.specs.Root.{Root, plus, times, minus, count, Above}
use Rattle.geometry.proofs.RootRing.{both, plus_comm, plus_zero, times_comm, times_assoc}
use Rattle.geometry.proofs.Solve.{at, none, add, mul, opp, solve, times_zero}
use Rattle.exact.proofs.Products.{root_times as turned}

pub above_plus : (x y : Root) → Above x → Above y → Above (plus x y)
unfolding plus
above_plus x y h k = positive_sum x.a x.b y.a y.b h k

pub above_not_minus : (x : Root) → Above x → Above (minus x) → ⊥
unfolding minus
above_not_minus x h k = exclusive x.a x.b h k

pub above_not_zero : Above (count 0) → ⊥
unfolding count
above_not_zero h = elim h [ inl x ↦ omega (arith, ints, x.2) | inr y ↦ elim y [ inl x ↦ omega (arith, ints, x.0) | inr x ↦ omega (arith, ints, x.0) ] ]

pub above_count : (n : ℕ) → 0 < n → Above (count n)
unfolding count
above_count n h = inl (omega (arith, ints), omega (arith, ints), omega (arith, ints))

pub sign_of : (x : Root) → Above x ⊎ ((x ≡ count 0) ⊎ Above (minus x))
unfolding count minus
sign_of x = elim (side x.a x.b) [ inl h ↦ inl h | inr k ↦ elim k [ inl z ↦ inr (inl (both x _ z.0 z.1)) | inr h ↦ inr (inr h) ] ]

count_times : (n : ℕ) (y : Root) → 0 < n → Above y → Above (times (count n) y)
unfolding times count
count_times n y p h =
    let A = is_atom y.a in let B = is_atom y.b in let N = is_lit n in let zero = is_lit 0 in let two = is_lit 2 in
    let e : pos n *ℤ y.a +ℤ pos 2 *ℤ (pos 0 *ℤ y.b) ≡ y.a *ℤ pos n = is_eq (is_add (is_mul N A) (is_mul two (is_mul zero B))) (is_mul A N) (omega arith) in
    let f : pos n *ℤ y.b +ℤ pos 0 *ℤ y.a ≡ y.b *ℤ pos n = is_eq (is_add (is_mul N B) (is_mul zero A)) (is_mul B N) (omega arith) in
    moved _ _ _ _ e f (scaled y.a y.b n p h)

root : Root
unfolding count
root = record { a = pos 0; b = pos 1 }

root_times : (y : Root) → Above y → Above (times root y)
unfolding times root
root_times y h =
    let A = is_atom y.a in let B = is_atom y.b in let zero = is_lit 0 in let one = is_lit 1 in let two = is_lit 2 in
    let e : pos 0 *ℤ y.a +ℤ pos 2 *ℤ (pos 1 *ℤ y.b) ≡ pos 2 *ℤ y.b = is_eq (is_add (is_mul zero A) (is_mul two (is_mul one B))) (is_mul two B) (omega arith) in
    let f : pos 0 *ℤ y.b +ℤ pos 1 *ℤ y.a ≡ y.a = is_eq (is_add (is_mul zero B) (is_mul one A)) A (omega arith) in
    moved _ _ _ _ e f (turned y.a y.b h)

some_of_both : (p q : ℕ) (y z : Root) → 0 < p + q → Above y → Above z → Above (plus (times (count p) y) (times (count q) z))
some_of_both zero zero y z h a b = absurd (omega arith)
some_of_both zero (suc q) y z h a b = rw (times_comm (count 0) y, times_zero, plus_comm (count 0) (times (count (suc q)) z), plus_zero) (count_times (suc q) z (omega arith) b)
some_of_both (suc p) zero y z h a b = rw (times_comm (count 0) z, times_zero, plus_zero) (count_times (suc p) y (omega arith) a)
some_of_both (suc p) (suc q) y z h a b = above_plus _ _ (count_times (suc p) y (omega arith) a) (count_times (suc q) z (omega arith) b)

whole : ℕ → ℕ → Root
whole p q = record { a = pos p; b = pos q }

whole_is : (p q : ℕ) → whole p q ≡ plus (count p) (times (count q) root)
unfolding whole plus times count root
whole_is p q = both _ _ (omega (arith, ints)) (omega (arith, ints))

whole_times : (p q : ℕ) (y : Root) → 0 < p + q → Above y → Above (times (whole p q) y)
whole_times p q y h a =
    rw (whole_is p q, solve (count p ∷ count q ∷ root ∷ y ∷ []) (mul (add (at 0) (mul (at 1) (at 2))) (at 3)) (add (mul (at 0) (at 3)) (mul (at 1) (mul (at 2) (at 3)))) refl)
    (some_of_both p q y (times root y) h a (root_times y a))

-- z is a conjugate of x, so that their product is a whole number above zero
by_conjugate : (x y z : Root) (n : ℕ) → 0 < n → times z x ≡ count n → ((w : Root) → Above w → Above (times z w)) → Above y → Above (times x y)
by_conjugate x y z n p e f h = elim (sign_of (times x y)) [
  | inl ok ↦ ok
  | inr k ↦ elim k [
    | inl gone ↦ absurd (above_not_zero (subst Above (ap (times z) gone ∙ times_zero z) positive))
    | inr low ↦ absurd (above_not_minus (times z (times x y)) positive (subst Above (solve (z ∷ times x y ∷ []) (mul (at 0) (opp (at 1))) (opp (mul (at 0) (at 1))) refl) (f _ low)))
  ]
]
  where
    positive : Above (times z (times x y))
    positive = subst Above (ap (λ t. times t y) (sym e) ∙ times_assoc z x y) (count_times n y p h)

high_norm : (p s : ℕ) → 2 * (suc s * suc s) < p * p → (let x : Root = record { a = pos p; b = negsuc s } in times (whole p (suc s)) x ≡ count (p * p - 2 * (suc s * suc s)))
unfolding times whole count
high_norm p s h = both _ _ (omega (arith, ints)) (omega (arith, ints))

low_norm : (r q : ℕ) → suc r * suc r < 2 * (q * q) → (let x : Root = record { a = negsuc r; b = pos q } in times (whole (suc r) q) x ≡ count (2 * (q * q) - suc r * suc r))
unfolding times whole count
low_norm r q h = both _ _ (omega (arith, ints)) (omega (arith, ints))

product : (a b : ℤ) (y : Root) → Positive a b → Above y → (let x : Root = record { a = a; b = b } in Above (times x y))
unfolding whole
product (pos p) (pos q) y h k = whole_times p q y (elim h [
  | inl x ↦ omega (arith, ints, x.2)
  | inr y ↦ elim y [ inl x ↦ absurd (omega (arith, ints, x.1)) | inr x ↦ absurd (omega (arith, ints, x.0)) ]
]) k
product (pos p) (negsuc s) y h k = elim h [
  | inl x ↦ absurd (omega (arith, ints, x.1))
  | inr z ↦ elim z [
    | inl x ↦ (let big : 2 * (suc s * suc s) < p * p = omega (arith, ints, x.2) in by_conjugate _ y (whole p (suc s)) (p * p - 2 * (suc s * suc s)) (omega arith) (high_norm p s big) (λ w a. whole_times p (suc s) w (omega arith) a) k)
    | inr x ↦ absurd (omega (arith, ints, x.0))
  ]
]
product (negsuc r) (pos q) y h k = elim h [
  | inl x ↦ absurd (omega (arith, ints, x.0))
  | inr z ↦ elim z [
    | inl x ↦ absurd (omega (arith, ints, x.0))
    | inr x ↦ (let big : suc r * suc r < 2 * (q * q) = omega (arith, ints, x.2) in by_conjugate _ y (whole (suc r) q) (2 * (q * q) - suc r * suc r) (omega arith) (low_norm r q big) (λ w a. whole_times (suc r) q w (omega arith) a) k)
  ]
]
product (negsuc r) (negsuc s) y h k = elim h [
  | inl x ↦ absurd (omega (arith, ints, x.0))
  | inr z ↦ elim z [ inl x ↦ absurd (omega (arith, ints, x.0)) | inr x ↦ absurd (omega (arith, ints, x.1)) ]
]

pub above_times : (x y : Root) → Above x → Above y → Above (times x y)
above_times x y h k = product x.a x.b y h k

pub times_minus : (x y : Root) → times x (minus y) ≡ minus (times x y)
times_minus x y = solve (x ∷ y ∷ []) (mul (at 0) (opp (at 1))) (opp (mul (at 0) (at 1))) refl

-- what is above zero has no factor that is zero: the rest has the sign of the product
pub above_out : (x y : Root) → Above x → Above (times x y) → Above y
above_out x y h k = elim (sign_of y) [
  | inl ok ↦ ok
  | inr s ↦ elim s [
    | inl z ↦ absurd (above_not_zero (subst Above (ap (times x) z ∙ times_zero x) k))
    | inr low ↦ absurd (above_not_minus _ k (subst Above (times_minus x y) (above_times x (minus y) h low)))
  ]
]

pub zero_out : (x y : Root) → Above x → times x y ≡ count 0 → y ≡ count 0
zero_out x y h e = elim (sign_of y) [
  | inl ok ↦ absurd (above_not_zero (subst Above e (above_times x y h ok)))
  | inr s ↦ elim s [
    | inl z ↦ z
    | inr low ↦ absurd (above_not_zero (subst Above (times_minus x y ∙ ap minus e ∙ solve [] (opp none) none refl) (above_times x (minus y) h low)))
  ]
]

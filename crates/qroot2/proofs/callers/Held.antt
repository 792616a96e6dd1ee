-- Signed numbers that pass through a call keep their value.
use Rattle.std.proofs.Common.{◌≡◌, ◌<◌, ◌≤◌, ◌^◌, ℕ, arith, refl, sym, ap, ◌∙◌}
use Rattle.std.specs.Prelude.{ℤ, pos, neg_ℤ, ◌+ℤ◌, ◌-ℤ◌, ◌*ℤ◌, unsigned_abs}
use Rattle.std.specs.Int.{cast_signed, cast_unsigned, w64, w128}
use Rattle.std.proofs.lemmas.Int.{ints, to_z-of_z, to_z_pos, fits_signed_from_abs}

-- a number that passed through a call, as 128 bits and as 64
abbrev pub through : ℤ → ℤ
through z = cast_signed w128 (cast_unsigned w128 z)

abbrev pub through_64 : ℤ → ℤ
through_64 z = cast_signed w64 (cast_unsigned w64 z)

pub held_128 : (z : ℤ) → unsigned_abs z ≤ 2 ^ 126 → through z ≡ z
held_128 z h = to_z-of_z w128 z (fits_signed_from_abs w128 z (omega arith))

pub held_64 : (z : ℤ) → unsigned_abs z ≤ 2 ^ 62 → through_64 z ≡ z
held_64 z h = to_z-of_z w64 z (fits_signed_from_abs w64 z (omega arith))

-- a number whose bits are 0 is 0
pub zero_held : (z : ℤ) → unsigned_abs z ≤ 2 ^ 48 → cast_unsigned w64 z ≡ 0 → z ≡ pos 0
zero_held z h e = sym (held_64 z (omega arith)) ∙ ap (cast_signed w64) e

pub both_same : {A B C : Type 0} (f : A → B → C) (a a' : A) (b b' : B) → a ≡ a' → b ≡ b' → f a b ≡ f a' b'
both_same f a a' b b' p q = ap (λ t. f t b) p ∙ ap (f a') q

-- a product of two numbers that passed through a call
pub held_product : (r x y a b : ℤ) → r ≡ through x *ℤ through y → x ≡ a → y ≡ b → unsigned_abs a ≤ 2 ^ 126 → unsigned_abs b ≤ 2 ^ 126 → r ≡ a *ℤ b
held_product r x y a b e f g h k = e ∙ both_same ◌*ℤ◌ _ _ _ _ (ap through f ∙ held_128 a h) (ap through g ∙ held_128 b k)

-- the same of two numerators, of a numerator and a denominator, and of their difference
pub held_times : (r x y : ℤ) → unsigned_abs x ≤ 2 ^ 48 → unsigned_abs y ≤ 2 ^ 48 → r ≡ through_64 x *ℤ through_64 y → r ≡ x *ℤ y
held_times r x y h k e = e ∙ both_same ◌*ℤ◌ _ _ _ _ (held_64 x (omega arith)) (held_64 y (omega arith))

pub held_scaled : (r x : ℤ) (d : ℕ) → unsigned_abs x ≤ 2 ^ 48 → r ≡ through_64 x *ℤ pos d → r ≡ x *ℤ pos d
held_scaled r x d h e = e ∙ ap (λ t. t *ℤ pos d) (held_64 x (omega arith))

pub held_cross : (r x y : ℤ) (d e : ℕ) → unsigned_abs r ≤ 2 ^ 120 → unsigned_abs x ≤ 2 ^ 48 → unsigned_abs y ≤ 2 ^ 48 → r ≡ through_64 x *ℤ pos e -ℤ through_64 y *ℤ pos d → through r ≡ x *ℤ pos e -ℤ y *ℤ pos d
held_cross r x y d e b h k p = held_128 r (omega arith) ∙ p ∙ both_same (λ s t. s *ℤ pos e -ℤ t *ℤ pos d) _ _ _ _ (held_64 x (omega arith)) (held_64 y (omega arith))

-- a difference, and a sum of two squares, one taken twice
pub held_minus : (x y : ℤ) → unsigned_abs x ≤ 2 ^ 61 → unsigned_abs y ≤ 2 ^ 61 → through_64 (through_64 x -ℤ through_64 y) ≡ x -ℤ y
held_minus x y h k = rw (held_64 x (omega arith), held_64 y (omega arith)) (held_64 (x -ℤ y) (omega (arith, ints)))

pub held_twice : (s t : ℤ) → unsigned_abs s < 2 ^ 124 → unsigned_abs t < 2 ^ 124 → through (through s +ℤ through (pos 2 *ℤ through t)) ≡ s +ℤ pos 2 *ℤ t
held_twice s t h k =
    rw (held_128 s (omega arith), held_128 t (omega arith), held_128 (pos 2 *ℤ t) (omega (arith, ints)))
    (held_128 (s +ℤ pos 2 *ℤ t) (omega (arith, ints)))

pub held_narrow_cross : (r x y : ℤ) (d e : ℕ) → unsigned_abs r < 2 ^ 62 → unsigned_abs x ≤ 2 ^ 48 → unsigned_abs y ≤ 2 ^ 48 → r ≡ through_64 x *ℤ pos e -ℤ through_64 y *ℤ pos d → through_64 r ≡ x *ℤ pos e -ℤ y *ℤ pos d
held_narrow_cross r x y d e b h k p = held_64 r (omega arith) ∙ p ∙ both_same (λ s t. s *ℤ pos e -ℤ t *ℤ pos d) _ _ _ _ (held_64 x (omega arith)) (held_64 y (omega arith))

pub held_plus : (r x y a b : ℤ) → unsigned_abs x ≤ 2 ^ 120 → unsigned_abs y ≤ 2 ^ 120 → r ≡ through x +ℤ through y → x ≡ a → y ≡ b → r ≡ a +ℤ b
held_plus r x y a b h k e f g = e ∙ both_same ◌+ℤ◌ _ _ _ _ (held_128 x (omega arith) ∙ f) (held_128 y (omega arith) ∙ g)

-- small sums that passed through calls
pub small_sum : (r s : ℤ) → unsigned_abs r ≤ 1 → unsigned_abs s ≤ 1 → through (through r +ℤ through s) ≡ r +ℤ s
small_sum r s h k = rw (held_128 r (omega arith), held_128 s (omega arith)) (held_128 (r +ℤ s) (omega (arith, ints)))

pub small_sum_twice : (r s : ℤ) → unsigned_abs r ≤ 1 → unsigned_abs s ≤ 1 → through (through (through r +ℤ through s) +ℤ through s) ≡ r +ℤ s +ℤ s
small_sum_twice r s h k = rw (small_sum r s h k, held_128 s (omega arith)) (held_128 (r +ℤ s +ℤ s) (omega (arith, ints)))

pub small_sum_bound : (r s z : ℤ) → unsigned_abs r ≤ 1 → unsigned_abs s ≤ 1 → z ≡ r +ℤ s → unsigned_abs z ≤ 2
small_sum_bound r s z h k e = rw e (omega (arith, ints))

pub small_sum_twice_bound : (r s z : ℤ) → unsigned_abs r ≤ 1 → unsigned_abs s ≤ 1 → z ≡ r +ℤ s +ℤ s → unsigned_abs z ≤ 3
small_sum_twice_bound r s z h k e = rw e (omega (arith, ints))

pub doubled_product : (a b c d r s : ℤ) → r ≡ a *ℤ c → s ≡ b *ℤ d → r +ℤ s +ℤ s ≡ a *ℤ c +ℤ pos 2 *ℤ (b *ℤ d)
doubled_product a b c d r s e f = rw (e, f) (twice (a *ℤ c) (b *ℤ d))
  where
    twice : (x y : ℤ) → x +ℤ y +ℤ y ≡ x +ℤ pos 2 *ℤ y
    twice x y = omega (arith, ints)

-- a size turned and lowered by 1
pub turned : (n : ℕ) → n ≤ 2 ^ 106 → through (through (pos 0 -ℤ cast_signed w128 n) -ℤ pos 1) ≡ neg_ℤ (pos n) -ℤ pos 1
turned n h =
    rw (to_z_pos w128 n (omega arith), held_128 (pos 0 -ℤ pos n) (omega (arith, ints)))
    (held_128 (pos 0 -ℤ pos n -ℤ pos 1) (omega (arith, ints)) ∙ omega (arith, ints))

pub held_sum : (x y : ℤ) → unsigned_abs x ≤ 2 ^ 106 → unsigned_abs y ≤ 2 ^ 106 → through (through x +ℤ through y) ≡ x +ℤ y
held_sum x y h k = rw (held_128 x (omega arith), held_128 y (omega arith)) (held_128 (x +ℤ y) (omega (arith, ints)))

-- a numerator carried over to 128 bits, and a denominator
pub carried : (r x a : ℤ) → unsigned_abs a ≤ 2 ^ 48 → x ≡ a → r ≡ through_64 x → through r ≡ a
carried r x a h e f = rw (f, e, held_64 a (omega arith)) (held_128 a (omega arith))

pub carried_size : (r : ℕ) (x : ℤ) (d : ℕ) → d ≤ 2 ^ 20 → x ≡ pos d → r ≡ unsigned_abs (through_64 x) → r ≡ d
carried_size r x d h e f = rw (f, e, held_64 (pos d) (omega arith)) refl

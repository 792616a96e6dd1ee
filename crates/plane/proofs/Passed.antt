-- Signed values as code passes them on: a value that fits comes back as it was.
use Rattle.std.proofs.Common.{◌≡◌, ℕ, ◌+◌, ◌*◌, ◌<◌, ◌≤◌, ◌^◌, arith, ap, ◌∙◌}
use Rattle.std.specs.Prelude.{ℤ, pos, neg_ℤ, ◌+ℤ◌, ◌-ℤ◌, ◌*ℤ◌, unsigned_abs, FitsSigned}
use Rattle.std.specs.Int.{cast_signed, cast_unsigned, w64, w128}
use Rattle.std.proofs.lemmas.Int.{ints, to_z-of_z, to_z_pos, fits_signed_from_abs, unsigned_abs-mul}
use Rattle.geometry.proofs.Sizes.{sum_size}

pub passed : (z : ℤ) → unsigned_abs z ≤ 2 ^ 121 → cast_signed w128 (cast_unsigned w128 z) ≡ z
passed z h = to_z-of_z w128 z (fits_signed_from_abs w128 z (omega arith))

pub product_passed : (a b : ℤ) → FitsSigned w128 a → FitsSigned w128 b → unsigned_abs a * unsigned_abs b ≤ 2 ^ 120
    → cast_signed w128 (cast_unsigned w128 (cast_signed w128 (cast_unsigned w128 a) *ℤ cast_signed w128 (cast_unsigned w128 b))) ≡ a *ℤ b
product_passed a b f g h = rw (to_z-of_z w128 a f, to_z-of_z w128 b g) (passed (a *ℤ b) (omega (arith, unsigned_abs-mul a b)))

-- a sum of two products within bounds
pub both_products : (a b c d : ℤ) → unsigned_abs a * unsigned_abs c + unsigned_abs b * unsigned_abs d ≤ 2 ^ 120 → unsigned_abs (a *ℤ c +ℤ b *ℤ d) ≤ 2 ^ 120
both_products a b c d h = omega (arith, sum_size (a *ℤ c) (b *ℤ d), unsigned_abs-mul a c, unsigned_abs-mul b d)

-- a value of 64 bits
pub passed_small : (z r : ℤ) → z ≡ r → unsigned_abs r ≤ 2 ^ 48 → cast_signed w64 (cast_unsigned w64 z) ≡ r
passed_small z r e h = to_z-of_z w64 z (fits_signed_from_abs w64 z (omega (arith, ap unsigned_abs e))) ∙ e

-- a value that was computed, passed on
pub passed_as : (z r : ℤ) → z ≡ r → unsigned_abs r ≤ 2 ^ 121 → cast_signed w128 (cast_unsigned w128 z) ≡ r
passed_as z r e h = passed z (omega (arith, ap unsigned_abs e)) ∙ e

pub difference_size : (u v : ℤ) → unsigned_abs u ≤ 2 ^ 68 → unsigned_abs v ≤ 2 ^ 68 → unsigned_abs (u -ℤ v) ≤ 2 ^ 69
difference_size u v h k = omega (arith, ints)

pub difference_passed : (u v : ℤ) → unsigned_abs u ≤ 2 ^ 68 → unsigned_abs v ≤ 2 ^ 68
    → cast_signed w128 (cast_unsigned w128 (cast_signed w128 (cast_unsigned w128 u) -ℤ cast_signed w128 (cast_unsigned w128 v))) ≡ u -ℤ v
difference_passed u v h k = rw (passed u (omega arith), passed v (omega arith)) (passed (u -ℤ v) (omega (arith, difference_size u v h k)))

pub multiple_passed : (a x m : ℤ) (n : ℕ) → a ≡ x → unsigned_abs a ≤ 2 ^ 120 → m ≡ pos n → n < 2 ^ 64 → unsigned_abs x * n ≤ 2 ^ 120
    → cast_signed w128 (cast_unsigned w128 (cast_signed w128 (cast_unsigned w128 a) *ℤ cast_signed w128 (cast_unsigned w128 m))) ≡ x *ℤ pos n
multiple_passed a x m n e h f k l =
    rw (passed_as a x e (omega (arith, ap unsigned_abs e)), passed_as m (pos n) f (omega arith))
    (passed (x *ℤ pos n) (omega (arith, unsigned_abs-mul x (pos n))))

-- a computed value of 64 bits, and the opposite of a part
pub passed_on : (z r : ℤ) → z ≡ r → unsigned_abs z ≤ 2 ^ 49 → cast_signed w64 (cast_unsigned w64 z) ≡ r
passed_on z r e h = to_z-of_z w64 z (fits_signed_from_abs w64 z (omega arith)) ∙ e

pub down_passed : (b x : ℤ) → b ≡ x → unsigned_abs x ≤ 2 ^ 48 → cast_signed w64 (cast_unsigned w64 (pos 0 -ℤ cast_signed w64 (cast_unsigned w64 b))) ≡ neg_ℤ x
down_passed b x e h = rw (passed_small b x e h) (to_z-of_z w64 (pos 0 -ℤ x) (fits_signed_from_abs w64 _ (omega (arith, ints))) ∙ omega (arith, ints))

pub below_passed : (n : ℕ) → n ≤ 2 ^ 84 → unsigned_abs (cast_signed w128 n) ≡ n
below_passed n h = ap unsigned_abs (to_z_pos w128 n (omega arith))

pub opposite_passed : (a x : ℤ) → a ≡ x → unsigned_abs a ≤ 2 ^ 120 → cast_signed w128 (cast_unsigned w128 (pos 0 -ℤ cast_signed w128 (cast_unsigned w128 a))) ≡ neg_ℤ x
opposite_passed a x e h = rw (passed a (omega arith), e) (passed (pos 0 -ℤ x) (omega (arith, ints, ap unsigned_abs e)) ∙ omega (arith, ints))

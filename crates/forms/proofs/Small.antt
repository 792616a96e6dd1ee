-- Least common multiples, and small numerators over a denominator.
use Rattle.std.proofs.Common.{◌≡◌, ◌≢◌, ℕ, ◌+◌, ◌-◌, ◌*◌, ◌/◌, ◌%◌, ◌<◌, ◌≤◌, ◌^◌, max, sym, ap, subst, ◌∙◌, arith}
use Rattle.std.specs.Prelude.{ℤ, pos, ◌*ℤ◌, unsigned_abs}
use Rattle.std.specs.Int.{◌∣◌}
use Rattle.std.proofs.lemmas.Int.{unsigned_abs-mul}
use Rattle.std.proofs.lemmas.Nat.Gcd.{le_of_dvd, mod-eq-zero_of_dvd, dvd_of_mod-eq-zero, dvd_refl}
use Rattle.std.proofs.Math.Nat.{div-mul_cancel, dvd-mul_left, dvd-mul_right, eq_of_mul-eq-mul_right, dvd-sub, dvd-add}
use Rattle.exact.specs.Number.{ExactNumber, IsCanonical}
use Rattle.exact.proofs.Lowest.{divides_factor}
use Rattle.qroot2.proofs.callers.Held.{through_64, held_64}
use Rattle.exact.proofs.Ring.{is_mul, is_lit, is_atom, is_eq}
use Rattle.exact.specs.Plane.{ExactPoint}
use Rattle.forms.specs.Common.{IsCommon, IsSmallOver}

-- a number over a multiple of its denominator
over_multiple : (n : ExactNumber) (d t : ℕ) → 0 < n.d → 0 < d → t * n.d ≡ d → unsigned_abs n.a * t ≤ 2 ^ 36 → unsigned_abs n.b * t ≤ 2 ^ 36 → IsSmallOver d n
over_multiple n d t p q e h k = record {
  a = n.a *ℤ pos t;
  b = n.b *ℤ pos t;
  same = record { a = part n.a; b = part n.b };
  a_within = omega (arith, h, unsigned_abs-mul n.a (pos t));
  b_within = omega (arith, k, unsigned_abs-mul n.b (pos t));
}
  where
    part : (z : ℤ) → z *ℤ pos (max 1 d) ≡ (z *ℤ pos t) *ℤ pos (max 1 n.d)
    part z = ap (λ m. z *ℤ pos m) (let u : max 1 d ≡ t * n.d = omega (arith, e) in u)
        ∙ is_eq (is_mul (is_atom z) (is_lit (t * n.d))) (is_mul (is_mul (is_atom z) (is_lit t)) (is_lit n.d)) (omega arith)
        ∙ ap (λ m. (z *ℤ pos t) *ℤ pos m) (let u : n.d ≡ max 1 n.d = omega arith in u)

-- of one part, without signs
sizes : (x y : ℤ) (m d : ℕ) → 0 < m → 0 < d → x *ℤ pos (max 1 d) ≡ y *ℤ pos (max 1 m) → unsigned_abs x * d ≡ unsigned_abs y * m
sizes x y m d h k e =
    sym (unsigned_abs-mul x (pos d)) ∙ ap (λ n. unsigned_abs (x *ℤ pos n)) (let u : d ≡ max 1 d = omega arith in u) ∙ ap unsigned_abs e
    ∙ ap (λ n. unsigned_abs (y *ℤ pos n)) (let u : max 1 m ≡ m = omega arith in u) ∙ unsigned_abs-mul y (pos m)

-- what a number in lowest terms is over is a multiple of its denominator
pub divides_of : (n : ExactNumber) (d : ℕ) → IsCanonical n → 0 < d → IsSmallOver d n → n.d ∣ d
divides_of n d c h s = divides_factor (unsigned_abs n.a) (unsigned_abs n.b) n.d d n.d c.lowest h (by n.a s.a s.same.a) (by n.b s.b s.same.b) (dvd-mul_right n.d d)
  where
    by : (x y : ℤ) → x *ℤ pos (max 1 d) ≡ y *ℤ pos (max 1 n.d) → n.d ∣ unsigned_abs x * d
    by x y e = subst (λ (t : ℕ). n.d ∣ t) (sym (sizes x y n.d d c.positive h e)) (dvd-mul_left n.d (unsigned_abs y))

part_small : (x y : ℤ) (m d t : ℕ) → 0 < m → 0 < d → t * m ≡ d → x *ℤ pos (max 1 d) ≡ y *ℤ pos (max 1 m) → unsigned_abs y ≤ 2 ^ 36 → unsigned_abs x * t ≤ 2 ^ 36
part_small x y m d t h k e f l =
    let g : unsigned_abs x * (t * m) ≡ unsigned_abs y * m = ap (λ n. unsigned_abs x * n) e ∙ sizes x y m d h k f in
    let u : unsigned_abs x * t ≡ unsigned_abs y = eq_of_mul-eq-mul_right m h (unsigned_abs x * t) (unsigned_abs y) (omega (arith, g)) in
    omega (arith, u)

parts_of : (n : ExactNumber) (d t : ℕ) → IsCanonical n → 0 < d → t * n.d ≡ d → IsSmallOver d n → (unsigned_abs n.a * t ≤ 2 ^ 36) × (unsigned_abs n.b * t ≤ 2 ^ 36)
parts_of n d t c h e s = (part_small n.a s.a n.d d t c.positive h e s.same.a s.a_within, part_small n.b s.b n.d d t c.positive h e s.same.b s.b_within)

-- a greater multiple of d is greater by d
next_multiple : (d m n : ℕ) → d ∣ m → d ∣ n → m < n → m + d ≤ n
next_multiple d m n a b l = omega (arith, le_of_dvd (let z : 0 < n - m = omega arith in z) (dvd-sub d b a))

-- the next multiple, where this one is not common
pub next_common : (d : ℕ) (p : ExactPoint) (m : ℕ) → 0 < m → d ∣ m → ((n : ℕ) → IsCommon d p n → m ≤ n) → (IsCommon d p m → ⊥)
    → (0 < m + d) × (d ∣ m + d) × ((n : ℕ) → IsCommon d p n → m + d ≤ n)
next_common d p m h a l here = (omega arith, dvd-add d a (dvd_refl d), λ n c. next_multiple d m n a c.multiple (omega (arith, l n c, distinct n c)))
  where
    distinct : (n : ℕ) → IsCommon d p n → m ≢ n
    distinct n c e = here (subst (IsCommon d p) (sym e) c)

-- m is no multiple
pub no_multiple : (d x m : ℕ) → x ≡ d → (m % x ≡ 0 → ⊥) → d ∣ m → ⊥
no_multiple d x m e f h = f (ap (λ t. m % t) e ∙ mod-eq-zero_of_dvd d h)

pub is_multiple : (d x m : ℕ) → x ≡ d → m % x ≡ 0 → d ∣ m
is_multiple d x m e f = dvd_of_mod-eq-zero d (ap (λ t. m % t) (sym e) ∙ f)

-- the denominator that the code reads
pub own_told : (r : ℕ) (z : ℤ) (n : ExactNumber) → r ≡ unsigned_abs (through_64 z) → z ≡ pos n.d → IsCanonical n → r ≡ n.d
own_told r z n e f c = e ∙ ap unsigned_abs (held_64 z (subst (λ y. unsigned_abs y ≤ 2 ^ 62) (sym f) (omega (arith, c.d)))) ∙ ap unsigned_abs f

part_told : (z x : ℤ) → z ≡ x → unsigned_abs x ≤ 2 ^ 48 → unsigned_abs (through_64 z) ≡ unsigned_abs x
part_told z x e h = ap unsigned_abs (held_64 z (subst (λ y. unsigned_abs y ≤ 2 ^ 62) (sym e) (omega (arith, h)))) ∙ ap unsigned_abs e

whole_times : (d own m : ℕ) → own ≡ m → d % own ≡ 0 → d / own * m ≡ d
whole_times d own m e f = ap (λ t. d / t * m) e ∙ div-mul_cancel m (is_multiple m own d e f)

-- by the parts that the code reads
pub both_small : (n : ExactNumber) (d own : ℕ) (x y : ℤ) → IsCanonical n → 0 < d → own ≡ n.d → d % own ≡ 0 → x ≡ n.a → y ≡ n.b
    → unsigned_abs (through_64 x) * (d / own) ≤ 2 ^ 36 → unsigned_abs (through_64 y) * (d / own) ≤ 2 ^ 36 → IsSmallOver d n
both_small n d own x y c h e f g i u v = over_multiple n d (d / own) c.positive h (whole_times d own n.d e f)
    (subst (λ s. s * (d / own) ≤ 2 ^ 36) (part_told x n.a g c.a) u) (subst (λ s. s * (d / own) ≤ 2 ^ 36) (part_told y n.b i c.b) v)

pub small_first : (n : ExactNumber) (d own : ℕ) (x : ℤ) → IsCanonical n → 0 < d → own ≡ n.d → d % own ≡ 0 → x ≡ n.a → IsSmallOver d n → unsigned_abs (through_64 x) * (d / own) ≤ 2 ^ 36
small_first n d own x c h e f g s = subst (λ z. z * (d / own) ≤ 2 ^ 36) (sym (part_told x n.a g c.a)) (parts_of n d (d / own) c h (whole_times d own n.d e f) s).0

pub small_second : (n : ExactNumber) (d own : ℕ) (y : ℤ) → IsCanonical n → 0 < d → own ≡ n.d → d % own ≡ 0 → y ≡ n.b → IsSmallOver d n → unsigned_abs (through_64 y) * (d / own) ≤ 2 ^ 36
small_second n d own y c h e f g s = subst (λ z. z * (d / own) ≤ 2 ^ 36) (sym (part_told y n.b g c.b)) (parts_of n d (d / own) c h (whole_times d own n.d e f) s).1

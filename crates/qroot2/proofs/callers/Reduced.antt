-- A triple divided by its greatest common divisor.
use Rattle.std.proofs.Common.{◌≡◌, ℕ, zero, suc, ◌+◌, ◌-◌, ◌*◌, ◌/◌, ◌%◌, ◌<◌, arith, refl, sym, subst}
use Rattle.std.specs.Int.{IsGcd, ◌∣◌}
use Rattle.std.proofs.lemmas.Nat.{div-add-mod', mod_below}
use Rattle.std.proofs.lemmas.Nat.Gcd.{dvd_trans, dvd_antisymm, mod-eq-zero_of_dvd, dvd_of_mod-eq-zero}
use Rattle.std.proofs.Math.Nat.{div-mul_cancel, mul-dvd-mul_right, dvd_of_mul-dvd-mul_right, dvd-mul_left, one-dvd, mod-zero}
use Rattle.qroot2.specs.Num.{Reduces, AreEven}

-- a divisor of a number above zero is above zero
pub divisor_above : (g d : ℕ) → 0 < d → g ∣ d → 0 < g
divisor_above zero d p h = omega (arith, mod-eq-zero_of_dvd zero h, mod-zero d)
divisor_above (suc g) d p h = omega arith

-- a common divisor that each common divisor divides
reduced_by : (a b d g : ℕ) → 0 < d → g ∣ a → g ∣ b → g ∣ d → ((n : ℕ) → n ∣ a → n ∣ b → n ∣ d → n ∣ g)
    → Reduces a b d (a / g) (b / g) (d / g)
reduced_by a b d g p ga gb gd common =
    let above : 0 < g = divisor_above g d p gd in
    let ea : a / g * g ≡ a = div-mul_cancel g ga in
    let eb : b / g * g ≡ b = div-mul_cancel g gb in
    let ed : d / g * g ≡ d = div-mul_cancel g gd in
    record {
      factor = (g, above, sym ea, sym eb, sym ed);
      lowest = λ n na nb nd.
          let ma : n * g ∣ a = subst (λ (t : ℕ). n * g ∣ t) ea (mul-dvd-mul_right n na g) in
          let mb : n * g ∣ b = subst (λ (t : ℕ). n * g ∣ t) eb (mul-dvd-mul_right n nb g) in
          let md : n * g ∣ d = subst (λ (t : ℕ). n * g ∣ t) ed (mul-dvd-mul_right n nd g) in
          let mg : n * g ∣ g = common (n * g) ma mb md in
          let one : n * g ∣ 1 * g = subst (λ (t : ℕ). n * g ∣ t) (omega arith) mg in
          dvd_antisymm (dvd_of_mul-dvd-mul_right n above one) (one-dvd n);
    }

-- the divisor of b and of the divisor f of a and d
pub reduced : (a b d f g : ℕ) → 0 < d → IsGcd a d f → IsGcd b f g → Reduces a b d (a / g) (b / g) (d / g)
reduced a b d f g p h k = reduced_by a b d g p (dvd_trans g k.1 h.0) k.0 (dvd_trans g k.1 h.1)
    (λ n na nb nd. k.2 n nb (h.2 n na nd))

-- over 1 all are in lowest terms
pub reduced_over_one : (a b d : ℕ) → d ≡ 1 → Reduces a b d a b d
reduced_over_one a b d e = record {
  factor = (1, omega arith, omega arith, omega arith, omega arith);
  lowest = λ n na nb nd. dvd_antisymm (subst (λ (t : ℕ). n ∣ t) e nd) (one-dvd n);
}

-- without a common divisor all are in lowest terms
pub reduced_already : (a b d f g : ℕ) → g ≡ 1 → IsGcd a d f → IsGcd b f g → Reduces a b d a b d
reduced_already a b d f g e h k = record {
  factor = (1, omega arith, omega arith, omega arith, omega arith);
  lowest = λ n na nb nd. dvd_antisymm (subst (λ (t : ℕ). n ∣ t) e (k.2 n nb (h.2 n na nd))) (one-dvd n);
}

-- an odd divisor of the double of a number divides that number
odd_half : (n w : ℕ) → n % 2 ≡ 1 → n ∣ 2 * w → n ∣ w
odd_half n w o h = subst (λ (t : ℕ). n ∣ t) half (dvd-mul_left n (w - n / 2 * (2 * w / n)))
  where
    twice : (p c m w : ℕ) → c ≡ 2 * m → c * (2 * p + 1) ≡ 2 * w → m * (2 * p + 1) ≡ w
    twice p c m w e k = omega (arith, rw e at k)

    even : (p c w : ℕ) → c * (2 * p + 1) ≡ 2 * w → c ≡ 2 * (w - p * c)
    even p c w k = omega (arith, k)

    two : n ≡ 2 * (n / 2) + 1
    two = omega (arith, div-add-mod' n 2, o)

    whole : 2 * w / n * (2 * (n / 2) + 1) ≡ 2 * w
    whole = subst (λ (t : ℕ). 2 * w / n * t ≡ 2 * w) two (div-mul_cancel n h)

    half : (w - n / 2 * (2 * w / n)) * n ≡ w
    half = subst (λ (t : ℕ). (w - n / 2 * (2 * w / n)) * t ≡ w) (sym two)
        (twice (n / 2) (2 * w / n) (w - n / 2 * (2 * w / n)) w (even (n / 2) (2 * w / n) w whole) whole)

-- an odd divisor of an even number divides its half
pub odd_kept : (n z : ℕ) → z % 2 ≡ 0 → n % 2 ≡ 1 → n ∣ z → n ∣ z / 2
odd_kept n z e o h = odd_half n (z / 2) o (subst (λ (t : ℕ). n ∣ t) (omega (arith, div-add-mod' z 2, e)) h)

-- half of an even number divides it
pub half_divides : (z : ℕ) → z % 2 ≡ 0 → z / 2 ∣ z
half_divides z e = subst (λ (t : ℕ). z / 2 ∣ t) (omega (arith, div-add-mod' z 2, e)) (dvd-mul_left (z / 2) 2)

-- three even numbers, by their halves
pub reduced_halves : (a b d x y z : ℕ) → AreEven a b d → Reduces (a / 2) (b / 2) (d / 2) x y z → Reduces a b d x y z
reduced_halves a b d x y z e h = record {
  factor = (
    h.factor.0 * 2,
    omega (arith, h.factor.1),
    twice a x h.factor.0 e.0 h.factor.2,
    twice b y h.factor.0 e.1 h.factor.3,
    twice d z h.factor.0 e.2 h.factor.4,
  );
  lowest = h.lowest;
}
  where
    twice : (n m g : ℕ) → n % 2 ≡ 0 → n / 2 ≡ m * g → n ≡ m * (g * 2)
    twice n m g e q = omega (arith, div-add-mod' n 2, e, q)

-- what divides three numbers that are not all even is odd
odd_divisor : (a b d n : ℕ) → ¬ AreEven a b d → n ∣ a → n ∣ b → n ∣ d → n % 2 ≡ 1
odd_divisor a b d n h na nb nd = by (n % 2) refl
  where
    even : (m : ℕ) → n % 2 ≡ 0 → n ∣ m → m % 2 ≡ 0
    even m e k = mod-eq-zero_of_dvd 2 (dvd_trans 2 (dvd_of_mod-eq-zero 2 e) k)

    by : (r : ℕ) → r ≡ n % 2 → n % 2 ≡ 1
    by zero e = absurd (h (even a (sym e) na, even b (sym e) nb, even d (sym e) nd))
    by (suc zero) e = sym e
    by (suc (suc r)) e = absurd (omega (arith, e, mod_below n 2 (omega arith)))

-- the divisor of b and of the divisor f of a and of the odd part w of d
common_odd : (a b d w f g : ℕ) → ¬ AreEven a b d → ((n : ℕ) → n % 2 ≡ 1 → n ∣ d → n ∣ w) → IsGcd a w f → IsGcd b f g
    → (n : ℕ) → n ∣ a → n ∣ b → n ∣ d → n ∣ g
common_odd a b d w f g e odd h k n na nb nd = k.2 n nb (h.2 n na (odd n (odd_divisor a b d n e na nb nd) nd))

pub reduced_odd : (a b d w f g : ℕ) → 0 < d → ¬ AreEven a b d → w ∣ d → ((n : ℕ) → n % 2 ≡ 1 → n ∣ d → n ∣ w)
    → IsGcd a w f → IsGcd b f g → Reduces a b d (a / g) (b / g) (d / g)
reduced_odd a b d w f g p e wd odd h k =
    reduced_by a b d g p (dvd_trans g k.1 h.0) k.0 (dvd_trans g k.1 (dvd_trans f h.1 wd)) (common_odd a b d w f g e odd h k)

pub reduced_odd_already : (a b d w f g : ℕ) → ¬ AreEven a b d → ((n : ℕ) → n % 2 ≡ 1 → n ∣ d → n ∣ w) → g ≡ 1
    → IsGcd a w f → IsGcd b f g → Reduces a b d a b d
reduced_odd_already a b d w f g e odd q h k = record {
  factor = (1, omega arith, omega arith, omega arith, omega arith);
  lowest = λ n na nb nd. dvd_antisymm (subst (λ (t : ℕ). n ∣ t) q (common_odd a b d w f g e odd h k n na nb nd)) (one-dvd n);
}

-- the divisor of the odd part is above zero
pub odd_divisor_above : (a b d w f g : ℕ) → 0 < d → w ∣ d → IsGcd a w f → IsGcd b f g → 0 < g
odd_divisor_above a b d w f g p wd h k = divisor_above g d p (dvd_trans g k.1 (dvd_trans f h.1 wd))

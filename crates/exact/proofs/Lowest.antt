-- Two triples in lowest terms that stand for one number are one triple.
use Rattle.std.proofs.Common.{◌≡◌, ℕ, zero, suc, ◌+◌, ◌*◌, ◌/◌, ◌<◌, ◌%◌, arith, refl, sym, subst, ap}
use Rattle.std.specs.Int.{IsGcd, ◌∣◌}
use Rattle.std.proofs.lemmas.Nat.{mod_below, mod-mul-add, div-add-mod'}
use Rattle.std.proofs.lemmas.Nat.Gcd.{IsGcd-from_zero, IsGcd-from_mod, dvd_trans, dvd_antisymm}
use Rattle.std.proofs.Math.Nat.{dvd-mul_left, dvd-mul_right}

-- a remainder, where both numbers are multiplied
pub mod-scaled : (a b k : ℕ) → 0 < b → 0 < k → (a * k) % (b * k) ≡ (a % b) * k
mod-scaled a b k p q =
    let less : (a % b) * k < b * k = grind (arith, mod_below a b p) in
    let split : a * k ≡ (a / b) * (b * k) + (a % b) * k = omega (arith, ap (λ t. t * k) (div-add-mod' a b)) in
    rw split (mod-mul-add (a / b) (b * k) ((a % b) * k) less)

-- a greatest common divisor, which stays one where both numbers are multiplied
pub record Scales (a b : ℕ) : Type 0 where
  pub g : ℕ
  pub here : IsGcd a b g
  pub there : (k : ℕ) → 0 < k → IsGcd (a * k) (b * k) (g * k)

pub scales : (fuel a b : ℕ) → b < fuel → Scales a b
scales zero a b h = absurd (omega arith)
scales (suc fuel) a zero h = record { g = a; here = IsGcd-from_zero a zero refl; there = λ k q. IsGcd-from_zero (a * k) (zero * k) (omega arith) }
scales (suc fuel) a (suc b) h =
    let less : a % suc b < suc b = mod_below a (suc b) (omega arith) in
    let r = scales fuel (suc b) (a % suc b) (omega arith) in
    record { g = r.g; here = IsGcd-from_mod a (suc b) r.g r.here; there = λ k q. IsGcd-from_mod (a * k) (suc b * k) (r.g * k) (rw (mod-scaled a (suc b) k (omega arith) q) (r.there k q)) }

-- what divides both products by k divides k, where no number above 1 divides a, b and d
pub divides_factor : (a b d k m : ℕ) → ((n : ℕ) → n ∣ a → n ∣ b → n ∣ d → n ≡ 1) → 0 < k → m ∣ a * k → m ∣ b * k → m ∣ d * k → m ∣ k
divides_factor a b d k m lowest q x y z =
    let r = scales (suc b) a b (omega arith) in
    let s = scales (suc d) r.g d (omega arith) in
    let one : s.g ≡ 1 = lowest s.g (dvd_trans s.g s.here.0 r.here.0) (dvd_trans s.g s.here.0 r.here.1) s.here.1 in
    let both : m ∣ r.g * k = (r.there k q).2 m x y in
    let all : m ∣ s.g * k = (s.there k q).2 m both z in
    let same : s.g * k ≡ k = omega (arith, ap (λ t. t * k) one) in
    subst (λ (t : ℕ). m ∣ t) same all

-- the denominators are equal
pub same_lowest : (a b d a' b' d' : ℕ) → 0 < d → 0 < d' → ((n : ℕ) → n ∣ a → n ∣ b → n ∣ d → n ≡ 1) → ((n : ℕ) → n ∣ a' → n ∣ b' → n ∣ d' → n ≡ 1)
    → a * d' ≡ a' * d → b * d' ≡ b' * d → d ≡ d'
same_lowest a b d a' b' d' p p' low low' e f =
    dvd_antisymm
    (divides_factor a b d d' d low p' (subst (λ (t : ℕ). d ∣ t) (sym e) (dvd-mul_left d a')) (subst (λ (t : ℕ). d ∣ t) (sym f) (dvd-mul_left d b')) (dvd-mul_right d d'))
    (divides_factor a' b' d' d d' low' p (subst (λ (t : ℕ). d' ∣ t) e (dvd-mul_left d' a)) (subst (λ (t : ℕ). d' ∣ t) f (dvd-mul_left d' b)) (dvd-mul_right d' d))

-- Sums of numbers above zero.
use Rattle.std.proofs.Common.{◌≡◌, ◌≤◌, ◌<◌, ◌+◌, ◌-◌, ◌*◌, ℕ, arith, inl, inr}
use Rattle.std.proofs.lemmas.Nat.{mul-le, mul-lt}
use Rattle.std.proofs.lemmas.Bool.{cases_lt}

-- a number whose square is at most another's is at most it
pub root_le : (x y : ℕ) → x * x ≤ y * y → x ≤ y
root_le x y h = elim (cases_lt y x) [ inl low ↦ absurd (omega (arith, mul-lt y y x x low low, h)) | inr ok ↦ ok ]

-- r ≤ s √2 and t ≤ u √2 give r t ≤ 2 s u
pub low_product : (r s t u : ℕ) → r * r ≤ 2 * (s * s) → t * t ≤ 2 * (u * u) → r * t ≤ 2 * (s * u)
low_product r s t u h k = root_le (r * t) (2 * (s * u)) (omega (arith, mul-le (r * r) (t * t) (2 * (s * s)) (2 * (u * u)) h k))

pub high_product : (r s t u : ℕ) → 2 * (s * s) ≤ r * r → 2 * (u * u) ≤ t * t → 2 * (s * u) ≤ r * t
high_product r s t u h k = root_le (2 * (s * u)) (r * t) (omega (arith, mul-le (2 * (s * s)) (2 * (u * u)) (r * r) (t * t) h k))

-- p > q √2 and r < s √2: then p - r > (q - s) √2
pub high_less_low : (t u r s : ℕ) → 2 * ((s + u) * (s + u)) < (r + t) * (r + t) → r * r < 2 * (s * s) → 2 * (u * u) < t * t
high_less_low t u r s h k = elim (cases_lt (2 * (u * u)) (t * t)) [
  | inl ok ↦ ok
  | inr low ↦ absurd (omega (arith, h, k, low, low_product r s t u (omega arith) low))
]

-- p < q √2 left out of r + t > (s + u) √2 the other way
pub low_less_high : (t u p s : ℕ) → (p + t) * (p + t) < 2 * ((s + u) * (s + u)) → 2 * (s * s) < p * p → t * t < 2 * (u * u)
low_less_high t u p s h k = elim (cases_lt (t * t) (2 * (u * u))) [
  | inl ok ↦ ok
  | inr high ↦ absurd (omega (arith, h, k, high, high_product p s t u (omega arith) high))
]

-- p + q √2 is more than r + s √2
pub data Wins (p q r s : ℕ) : Type 0 where
  both : r ≤ p → s ≤ q → r + s < p + q → Wins p q r s
  high : (t u : ℕ) → p ≡ r + t → s ≡ q + u → 0 < u → 2 * (u * u) < t * t → Wins p q r s
  low : (t u : ℕ) → r ≡ p + t → q ≡ s + u → 0 < t → t * t < 2 * (u * u) → Wins p q r s

pub high_sum : (p s p' s' : ℕ) → 2 * (s * s) < p * p → 2 * (s' * s') < p' * p' → 2 * ((s + s') * (s + s')) < (p + p') * (p + p')
high_sum p s p' s' h k = omega (arith, h, k, high_product p s p' s' (omega arith) (omega arith))

pub low_sum : (r q r' q' : ℕ) → r * r < 2 * (q * q) → r' * r' < 2 * (q' * q') → (r + r') * (r + r') < 2 * ((q + q') * (q + q'))
low_sum r q r' q' h k = omega (arith, h, k, low_product r q r' q' (omega arith) (omega arith))

pub higher : (p s t u : ℕ) → p ≤ t → u ≤ s → 2 * (s * s) < p * p → 2 * (u * u) < t * t
higher p s t u h k e = omega (arith, e, mul-le p p t t h h, mul-le u u s s k k)

pub lower : (r q t u : ℕ) → t ≤ r → q ≤ u → r * r < 2 * (q * q) → t * t < 2 * (u * u)
lower r q t u h k e = omega (arith, e, mul-le t t r r h h, mul-le q q u u k k)

apart : {X : Type 0} (p s r q : ℕ) → 2 * (s * s) < p * p → r * r < 2 * (q * q) → p ≤ r → q ≤ s → X
apart p s r q h k l m = absurd (omega (arith, h, k, mul-le p p r r l l, mul-le q q s s m m))

pub high_low : (p s r q : ℕ) → 2 * (s * s) < p * p → r * r < 2 * (q * q) → Wins p q r s
high_low p s r q h k = elim (cases_lt p r) [
  | inl lt ↦ elim (cases_lt q s) [
    | inl lt' ↦ apart p s r q h k (omega arith) (omega arith)
    | inr ge' ↦ Wins.low (r - p) (q - s) (omega arith) (omega arith) (omega arith) (low_less_high (r - p) (q - s) p s (subst2 p (r - p) r s (q - s) q (omega arith) (omega arith) k) h)
  ]
  | inr ge ↦ elim (cases_lt q s) [
    | inl lt' ↦ Wins.high (p - r) (s - q) (omega arith) (omega arith) (omega arith) (high_less_low (p - r) (s - q) r q (subst3 r (p - r) p q (s - q) s (omega arith) (omega arith) h) k)
    | inr ge' ↦ elim (cases_lt (r + s) (p + q)) [ inl ok ↦ Wins.both (omega arith) (omega arith) ok | inr more ↦ apart p s r q h k (omega arith) (omega arith) ]
  ]
]
  where
    subst2 : (p t r s u q : ℕ) → r ≡ p + t → q ≡ s + u → r * r < 2 * (q * q) → (p + t) * (p + t) < 2 * ((s + u) * (s + u))
    subst2 p t r s u q e f x = rw (← e, ← f) x

    subst3 : (r t p q u s : ℕ) → p ≡ r + t → s ≡ q + u → 2 * (s * s) < p * p → 2 * ((q + u) * (q + u)) < (r + t) * (r + t)
    subst3 r t p q u s e f x = rw (← e, ← f) x

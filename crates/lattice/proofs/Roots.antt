-- Multiples of c √2 between those of two whole numbers next to each other.
use Rattle.std.proofs.Common.{◌≡◌, ℕ, zero, suc, ◌+◌, ◌-◌, ◌*◌, ◌<◌, ◌≤◌, arith, inl, inr}
use Rattle.std.specs.Prelude.{pos, neg_ℤ, ◌+ℤ◌, ◌-ℤ◌, ◌*ℤ◌}
use Rattle.std.proofs.lemmas.Int.{ints}
use Rattle.std.proofs.lemmas.Bool.{cases_lt}
use Rattle.exact.proofs.Ring.{is_eq, is_mul, is_neg, is_lit}
use Rattle.exact.proofs.Positive.{scaled, from_high, from_low}
use Rattle.lattice.specs.Side.{NotNegative}
use Rattle.lattice.proofs.Sides.{nn_moved, nn_sum, nn_whole}

-- r is the whole part of c √2
pub record IsBase (c r : ℕ) : Type 0 where
  pub c_some : 0 < c
  pub r_some : 0 < r
  pub below : r * r < 2 * (c * c)
  pub above : 2 * (c * c) < suc r * suc r

times : (x y : ℕ) → pos y *ℤ pos x ≡ pos (x * y)
times x y = is_eq (is_mul (is_lit y) (is_lit x)) (is_lit (x * y)) (omega arith)

neg_times : (x y : ℕ) → neg_ℤ (pos y) *ℤ pos x ≡ neg_ℤ (pos (x * y))
neg_times x y = is_eq (is_mul (is_neg (is_lit y)) (is_lit x)) (is_neg (is_lit (x * y))) (omega arith)

none : (y : ℕ) → pos (0 * y) ≡ pos 0
none y = omega (arith, ints)

neg_none : (y : ℕ) → neg_ℤ (pos (0 * y)) ≡ pos 0
neg_none y = is_eq (is_neg (is_lit (0 * y))) (is_lit 0) (omega arith)

-- x c √2 is at most x (r + 1), and x r at most x c √2
over : (c r x : ℕ) → IsBase c r → NotNegative (pos (x * suc r)) (neg_ℤ (pos (x * c)))
over c r zero b = inl (none (suc r), neg_none c)
over c r (suc x) b = nn_moved _ _ _ _ (times (suc x) (suc r)) (neg_times (suc x) c) (inr (scaled _ _ (suc x) (omega arith) (from_high (suc r) c b.c_some b.above)))

under : (c r x : ℕ) → IsBase c r → NotNegative (neg_ℤ (pos (x * r))) (pos (x * c))
under c r zero b = inl (neg_none r, none c)
under c r (suc x) b = nn_moved _ _ _ _ (neg_times (suc x) r) (times (suc x) c) (inr (scaled _ _ (suc x) (omega arith) (from_low r c b.r_some b.below)))

rise : (c r p n s t x : ℕ) → IsBase c r → s ≡ t + x → NotNegative (pos p -ℤ pos n) (pos (c * s) -ℤ pos (c * t)) → n ≤ p + x * suc r
rise c r p n s t x b e h = nn_whole (p + x * suc r) n (nn_moved _ _ _ _ (gathered p n (x * suc r)) (gone (c * s) (c * t) (x * c) (rw e (omega arith))) (nn_sum _ _ _ _ h (over c r x b)))
  where
    gathered : (p n y : ℕ) → (pos p -ℤ pos n) +ℤ pos y ≡ pos (p + y) -ℤ pos n
    gathered p n y = omega (arith, ints)

    gone : (s t y : ℕ) → s ≡ t + y → (pos s -ℤ pos t) +ℤ neg_ℤ (pos y) ≡ pos 0
    gone s t y e = omega (arith, ints)

fall : (c r p n s t x : ℕ) → IsBase c r → t ≡ s + x → NotNegative (pos p -ℤ pos n) (pos (c * s) -ℤ pos (c * t)) → n + x * r ≤ p
fall c r p n s t x b e h = nn_whole p (n + x * r) (nn_moved _ _ _ _ (gathered p n (x * r)) (gone (c * s) (c * t) (x * c) (rw e (omega arith))) (nn_sum _ _ _ _ h (under c r x b)))
  where
    gathered : (p n y : ℕ) → (pos p -ℤ pos n) +ℤ neg_ℤ (pos y) ≡ pos p -ℤ pos (n + y)
    gathered p n y = omega (arith, ints)

    gone : (s t y : ℕ) → t ≡ s + y → (pos s -ℤ pos t) +ℤ pos y ≡ pos 0
    gone s t y e = omega (arith, ints)

rise_more : (n p t s x r k : ℕ) → s ≡ t + x → x ≤ k → n ≤ p + x * suc r → n + t * r ≤ p + s * r + k
rise_more n p t s x r k e small h = rw e (omega arith)

fall_more : (n p t s x r k : ℕ) → t ≡ s + x → n + x * r ≤ p → n + t * r ≤ p + s * r + k
fall_more n p t s x r k e h = rw e (omega arith)

-- (p - n) + c (s - t) √2 is not below zero, so by r for c √2 it is not below -k
pub rounded : (c r p n s t k : ℕ) → IsBase c r → s ≤ t + k → NotNegative (pos p -ℤ pos n) (pos (c * s) -ℤ pos (c * t)) → n + t * r ≤ p + s * r + k
rounded c r p n s t k b small h = elim (cases_lt s t) [
  | inl lt ↦ fall_more n p t s (t - s) r k (omega arith) (fall c r p n s t (t - s) b (omega arith) h)
  | inr ge ↦ rise_more n p t s (s - t) r k (omega arith) (omega arith) (rise c r p n s t (s - t) b (omega arith) h)
]

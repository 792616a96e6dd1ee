-- Numbers that are zero or above: sums, multiples, and whole ones.
use Rattle.std.proofs.Common.{◌≡◌, ℕ, ◌+◌, ◌*◌, ◌<◌, ◌≤◌, arith, refl, sym, ap, inl, inr, ◌∙◌}
use Rattle.std.specs.Prelude.{ℤ, pos, neg_ℤ, ◌+ℤ◌, ◌-ℤ◌, ◌*ℤ◌}
use Rattle.std.proofs.lemmas.Int.{ints}
use Rattle.exact.specs.Number.{Positive}
use Rattle.exact.proofs.Ring.{is_eq, is_mul, is_sub, is_lit}
use Rattle.exact.proofs.Unique.{cancel}
use Rattle.exact.proofs.Positive.{moved, positive_sum, scaled, unscaled, exclusive, zero_not}
use Rattle.lattice.specs.Side.{NotNegative}

pub nn_moved : (a a' b b' : ℤ) → a ≡ a' → b ≡ b' → NotNegative a b → NotNegative a' b'
nn_moved a a' b b' e f v = rw (← e, ← f) v

left_zero : (a c : ℤ) → a ≡ pos 0 → c ≡ a +ℤ c
left_zero a c e = omega (arith, ints)

right_zero : (a c : ℤ) → c ≡ pos 0 → a ≡ a +ℤ c
right_zero a c e = omega (arith, ints)

both_zero : (a c : ℤ) → a ≡ pos 0 → c ≡ pos 0 → a +ℤ c ≡ pos 0
both_zero a c e f = omega (arith, ints)

pub nn_sum : (a b c d : ℤ) → NotNegative a b → NotNegative c d → NotNegative (a +ℤ c) (b +ℤ d)
nn_sum a b c d h k = elim h [
  | inl z ↦ elim k [ inl w ↦ inl (both_zero a c z.0 w.0, both_zero b d z.1 w.1) | inr p ↦ inr (moved _ _ _ _ (sym (left_zero a c z.0)) (sym (left_zero b d z.1)) p) ]
  | inr p ↦ elim k [ inl w ↦ inr (moved _ _ _ _ (sym (right_zero a c w.0)) (sym (right_zero b d w.1)) p) | inr q ↦ inr (positive_sum a b c d p q) ]
]

none_times : (a : ℤ) (k : ℕ) → a ≡ pos 0 → a *ℤ pos k ≡ pos 0
none_times a k e = ap (λ t. t *ℤ pos k) e ∙ is_eq (is_mul (is_lit 0) (is_lit k)) (is_lit 0) (omega arith)

pub nn_scaled : (a b : ℤ) (k : ℕ) → 0 < k → NotNegative a b → NotNegative (a *ℤ pos k) (b *ℤ pos k)
nn_scaled a b k p h = elim h [ inl z ↦ inl (none_times a k z.0, none_times b k z.1) | inr q ↦ inr (scaled a b k p q) ]

pub nn_unscaled : (a b : ℤ) (k : ℕ) → 0 < k → NotNegative (a *ℤ pos k) (b *ℤ pos k) → NotNegative a b
nn_unscaled a b k p h = elim h [
  | inl z ↦ inl (cancel a (pos 0) k p (z.0 ∙ sym (none_times (pos 0) k refl)), cancel b (pos 0) k p (z.1 ∙ sym (none_times (pos 0) k refl)))
  | inr q ↦ inr (unscaled a b k p q)
]

-- the same number, by a multiple of each
pub nn_carried : (a b a' b' : ℤ) (p q : ℕ) → 0 < p → 0 < q → a *ℤ pos q ≡ a' *ℤ pos p → b *ℤ pos q ≡ b' *ℤ pos p → NotNegative a b → NotNegative a' b'
nn_carried a b a' b' p q hp hq e f h = nn_unscaled a' b' p hp (nn_moved _ _ _ _ e f (nn_scaled a b q hq h))

pub nn_strict : (a b : ℤ) → NotNegative a b → Positive (neg_ℤ a) (neg_ℤ b) → ⊥
nn_strict a b h k = elim h [ inl z ↦ zero_not (moved _ _ _ _ (sym (ap neg_ℤ z.0)) (sym (ap neg_ℤ z.1)) k) | inr p ↦ exclusive a b p k ]

whole_above : (p n : ℕ) → Positive (pos p -ℤ pos n) (pos 0) → n ≤ p
whole_above p n h = elim h [
  | inl x ↦ omega (arith, ints, x.0)
  | inr y ↦ elim y [ inl x ↦ absurd (omega (arith, ints, x.1)) | inr x ↦ absurd (omega (arith, ints, x.1)) ]
]

pub nn_whole : (p n : ℕ) → NotNegative (pos p -ℤ pos n) (pos 0) → n ≤ p
nn_whole p n h = elim h [ inl z ↦ omega (arith, ints, z.0) | inr q ↦ whole_above p n q ]

-- two whose roots cancel
pub nn_pair : (a c a' c' s t : ℕ) → NotNegative (pos a -ℤ pos c) (pos s -ℤ pos t) → NotNegative (pos a' -ℤ pos c') (pos t -ℤ pos s) → c + c' ≤ a + a'
nn_pair a c a' c' s t h k = nn_whole (a + a') (c + c') (nn_moved _ _ _ _ (gathered a c a' c') (gone s t) (nn_sum _ _ _ _ h k))
  where
    gathered : (a c a' c' : ℕ) → (pos a -ℤ pos c) +ℤ (pos a' -ℤ pos c') ≡ pos (a + a') -ℤ pos (c + c')
    gathered a c a' c' = omega (arith, ints)

    gone : (s t : ℕ) → (pos s -ℤ pos t) +ℤ (pos t -ℤ pos s) ≡ pos 0
    gone s t = omega (arith, ints)

-- a difference times c
pub nn_times : (a b s t c : ℕ) → 0 < c → NotNegative (pos a -ℤ pos b) (pos s -ℤ pos t) → NotNegative (pos (c * a) -ℤ pos (c * b)) (pos (c * s) -ℤ pos (c * t))
nn_times a b s t c p h = nn_moved _ _ _ _ (spread a b c) (spread s t c) (nn_scaled _ _ c p h)
  where
    spread : (a b c : ℕ) → (pos a -ℤ pos b) *ℤ pos c ≡ pos (c * a) -ℤ pos (c * b)
    spread a b c = is_eq (is_mul (is_sub (is_lit a) (is_lit b)) (is_lit c)) (is_sub (is_lit (c * a)) (is_lit (c * b))) (omega arith)

-- Numbers above zero: sums, multiples, and that a number and its negative are not both above zero.
use Rattle.std.proofs.Common.{◌≡◌, zero-mul, ◌<◌, ◌+◌, ◌-◌, ◌*◌, ℕ, zero, suc, arith, refl, sym, subst, inl, inr}
use Rattle.std.specs.Prelude.{ℤ, pos, negsuc, neg_ℤ, ◌+ℤ◌, ◌-ℤ◌, ◌*ℤ◌}
use Rattle.std.proofs.lemmas.Int.{ints}
use Rattle.std.proofs.lemmas.Bool.{cases_lt}
use borrow.Author.Differences.{same_in}
use Rattle.exact.specs.Number.{ExactNumber, den, Less, Positive}
use Rattle.exact.proofs.Ring.{Is, is_add, is_neg, is_lit, is_atom, is_mul, is_sub, is_eq}
use Rattle.exact.proofs.Root.{side}
use Rattle.exact.proofs.Sum.{Wins, high_sum, low_sum, higher, lower, high_low}

data Form (a b : ℤ) : Type 0 where
  f_both : (p q : ℕ) → a ≡ pos p → b ≡ pos q → 0 < p + q → Form a b
  f_high : (p s : ℕ) → a ≡ pos p → b ≡ neg_ℤ (pos s) → 0 < p → 2 * (s * s) < p * p → Form a b
  f_low : (r q : ℕ) → a ≡ neg_ℤ (pos r) → b ≡ pos q → 0 < q → r * r < 2 * (q * q) → Form a b

form : (a b : ℤ) → Positive a b → Form a b
form (pos p) (pos q) h = Form.f_both p q refl refl (elim h [
  | inl x ↦ omega (arith, ints, x.2)
  | inr y ↦ elim y [ inl x ↦ absurd (omega (arith, ints, x.1)) | inr x ↦ absurd (omega (arith, ints, x.0)) ]
])
form (pos p) (negsuc s) h = elim h [
  | inl x ↦ absurd (omega (arith, ints, x.1))
  | inr y ↦ elim y [ inl x ↦ Form.f_high p (suc s) refl refl (omega (arith, ints, x.0)) (omega (arith, ints, x.2)) | inr x ↦ absurd (omega (arith, ints, x.0)) ]
]
form (negsuc r) (pos q) h = elim h [
  | inl x ↦ absurd (omega (arith, ints, x.0))
  | inr y ↦ elim y [ inl x ↦ absurd (omega (arith, ints, x.0)) | inr x ↦ Form.f_low (suc r) q refl refl (omega (arith, ints, x.1)) (omega (arith, ints, x.2)) ]
]
form (negsuc r) (negsuc s) h = elim h [
  | inl x ↦ absurd (omega (arith, ints, x.0))
  | inr y ↦ elim y [ inl x ↦ absurd (omega (arith, ints, x.0)) | inr x ↦ absurd (omega (arith, ints, x.1)) ]
]

pub from_high : (t u : ℕ) → 0 < u → 2 * (u * u) < t * t → Positive (pos t) (neg_ℤ (pos u))
from_high t zero p h = absurd (omega arith)
from_high zero (suc u) p h = absurd (omega arith)
from_high (suc t) (suc u) p h = inr (inl (omega (arith, ints), omega (arith, ints), omega (arith, ints)))

pub from_low : (t u : ℕ) → 0 < t → t * t < 2 * (u * u) → Positive (neg_ℤ (pos t)) (pos u)
from_low zero u p h = absurd (omega arith)
from_low (suc t) zero p h = absurd (omega arith)
from_low (suc t) (suc u) p h = inr (inr (omega (arith, ints), omega (arith, ints), omega (arith, ints)))

as_pos : (a : ℤ) (p r t : ℕ) → Is a p r → p ≡ r + t → a ≡ pos t
as_pos a p r t h e = same_in a (pos t) (omega (arith, h.is))

as_neg : (a : ℤ) (p r t : ℕ) → Is a p r → r ≡ p + t → a ≡ neg_ℤ (pos t)
as_neg a p r t h e = is_eq h (is_neg (is_lit t)) (omega arith)

pub moved : (a a' b b' : ℤ) → a ≡ a' → b ≡ b' → Positive a' b' → Positive a b
moved a a' b b' e f v = rw (e, f) v

pub wins_positive : (a b : ℤ) (p q r s : ℕ) → Is a p r → Is b q s → Wins p q r s → Positive a b
wins_positive a b p q r s h k (Wins.both x y z) = inl (omega (arith, ints, h.is, k.is), omega (arith, ints, h.is, k.is), omega (arith, ints, h.is, k.is))
wins_positive a b p q r s h k (Wins.high t u x y z w) = moved a (pos t) b (neg_ℤ (pos u)) (as_pos a p r t h x) (as_neg b q s u k y) (from_high t u z w)
wins_positive a b p q r s h k (Wins.low t u x y z w) = moved a (neg_ℤ (pos t)) b (pos u) (as_neg a p r t h x) (as_pos b q s u k y) (from_low t u z w)

is_at : (a : ℤ) (p : ℕ) → a ≡ pos p → Is a p 0
is_at a p e = subst (λ z. Is z p 0) (sym e) (is_lit p)

is_below : (a : ℤ) (r : ℕ) → a ≡ neg_ℤ (pos r) → Is a 0 r
is_below a r e = subst (λ z. Is z 0 r) (sym e) (is_neg (is_lit r))

one_high : (t u : ℕ) → 0 < t → 2 * (u * u) < t * t → Wins t 0 0 u
one_high t zero p h = Wins.both (omega arith) (omega arith) (omega arith)
one_high t (suc u) p h = Wins.high t (suc u) (omega arith) (omega arith) (omega arith) h

one_low : (t u : ℕ) → 0 < u → t * t < 2 * (u * u) → Wins 0 u t 0
one_low zero u p h = Wins.both (omega arith) (omega arith) (omega arith)
one_low (suc t) u p h = Wins.low (suc t) u (omega arith) (omega arith) (omega arith) h

both_high : (p q p' s : ℕ) → 0 < p' → 2 * (s * s) < p' * p' → Wins (p + p') q 0 s
both_high p q p' s x h = elim (cases_lt q s) [
  | inl lt ↦ Wins.high (p + p') (s - q) (omega arith) (omega arith) (omega arith) (higher p' s (p + p') (s - q) (omega arith) (omega arith) h)
  | inr ge ↦ Wins.both (omega arith) ge (omega arith)
]

both_low : (p q r q' : ℕ) → 0 < q' → r * r < 2 * (q' * q') → Wins p (q + q') r 0
both_low p q r q' x h = elim (cases_lt p r) [
  | inl lt ↦ Wins.low (r - p) (q + q') (omega arith) (omega arith) (omega arith) (lower r q' (r - p) (q + q') (omega arith) (omega arith) h)
  | inr ge ↦ Wins.both ge (omega arith) (omega arith)
]

sum_is : (a c : ℤ) (p r p' r' P R : ℕ) → Is a p r → Is c p' r' → P ≡ p + p' → R ≡ r + r' → Is (a +ℤ c) P R
sum_is a c p r p' r' P R h k e f = rw (e, f) (is_add h k)

swapped : (a b c d : ℤ) → Positive (c +ℤ a) (d +ℤ b) → Positive (a +ℤ c) (b +ℤ d)
swapped a b c d h =
    let e : a +ℤ c ≡ c +ℤ a = omega (arith, ints) in
    let f : b +ℤ d ≡ d +ℤ b = omega (arith, ints) in
    rw (e, f) h

sum_both_high : (a b c d : ℤ) (p q p' s : ℕ) → a ≡ pos p → b ≡ pos q → c ≡ pos p' → d ≡ neg_ℤ (pos s) → 0 < p' → 2 * (s * s) < p' * p' → Positive (a +ℤ c) (b +ℤ d)
sum_both_high a b c d p q p' s e f e' f' x h = wins_positive _ _ (p + p') q 0 s (sum_is a c p 0 p' 0 (p + p') 0 (is_at a p e) (is_at c p' e') refl (omega arith)) (sum_is b d q 0 0 s q s (is_at b q f) (is_below d s f') (omega arith) (omega arith)) (both_high p q p' s x h)

sum_both_low : (a b c d : ℤ) (p q r q' : ℕ) → a ≡ pos p → b ≡ pos q → c ≡ neg_ℤ (pos r) → d ≡ pos q' → 0 < q' → r * r < 2 * (q' * q') → Positive (a +ℤ c) (b +ℤ d)
sum_both_low a b c d p q r q' e f e' f' x h = wins_positive _ _ p (q + q') r 0 (sum_is a c p 0 0 r p r (is_at a p e) (is_below c r e') (omega arith) (omega arith)) (sum_is b d q 0 q' 0 (q + q') 0 (is_at b q f) (is_at d q' f') refl (omega arith)) (both_low p q r q' x h)

sum_high_low : (a b c d : ℤ) (p s r q : ℕ) → a ≡ pos p → b ≡ neg_ℤ (pos s) → c ≡ neg_ℤ (pos r) → d ≡ pos q → 2 * (s * s) < p * p → r * r < 2 * (q * q) → Positive (a +ℤ c) (b +ℤ d)
sum_high_low a b c d p s r q e f e' f' h k = wins_positive _ _ p q r s (sum_is a c p 0 0 r p r (is_at a p e) (is_below c r e') (omega arith) (omega arith)) (sum_is b d 0 s q 0 q s (is_below b s f) (is_at d q f') (omega arith) (omega arith)) (high_low p s r q h k)

sum_of : (a b c d : ℤ) → Form a b → Form c d → Positive (a +ℤ c) (b +ℤ d)
sum_of a b c d (Form.f_both p q e f x) (Form.f_both p' q' e' f' x') = wins_positive _ _ (p + p') (q + q') (0 + 0) (0 + 0) (is_add (is_at a p e) (is_at c p' e')) (is_add (is_at b q f) (is_at d q' f')) (Wins.both (omega arith) (omega arith) (omega arith))
sum_of a b c d (Form.f_both p q e f x) (Form.f_high p' s e' f' x' h) = sum_both_high a b c d p q p' s e f e' f' x' h
sum_of a b c d (Form.f_both p q e f x) (Form.f_low r q' e' f' x' h) = sum_both_low a b c d p q r q' e f e' f' x' h
sum_of a b c d (Form.f_high p s e f x h) (Form.f_both p' q' e' f' x') = swapped a b c d (sum_both_high c d a b p' q' p s e' f' e f x h)
sum_of a b c d (Form.f_high p s e f x h) (Form.f_high p' s' e' f' x' h') = wins_positive _ _ (p + p') 0 0 (s + s') (sum_is a c p 0 p' 0 (p + p') 0 (is_at a p e) (is_at c p' e') refl (omega arith)) (sum_is b d 0 s 0 s' 0 (s + s') (is_below b s f) (is_below d s' f') (omega arith) refl) (one_high (p + p') (s + s') (omega arith) (high_sum p s p' s' h h'))
sum_of a b c d (Form.f_high p s e f x h) (Form.f_low r q e' f' x' h') = sum_high_low a b c d p s r q e f e' f' h h'
sum_of a b c d (Form.f_low r q e f x h) (Form.f_both p' q' e' f' x') = swapped a b c d (sum_both_low c d a b p' q' r q e' f' e f x h)
sum_of a b c d (Form.f_low r q e f x h) (Form.f_high p s e' f' x' h') = swapped a b c d (sum_high_low c d a b p s r q e' f' e f h' h)
sum_of a b c d (Form.f_low r q e f x h) (Form.f_low r' q' e' f' x' h') = wins_positive _ _ 0 (q + q') (r + r') 0 (sum_is a c 0 r 0 r' 0 (r + r') (is_below a r e) (is_below c r' e') (omega arith) refl) (sum_is b d q 0 q' 0 (q + q') 0 (is_at b q f) (is_at d q' f') refl (omega arith)) (one_low (r + r') (q + q') (omega arith) (low_sum r q r' q' h h'))

pub positive_sum : (a b c d : ℤ) → Positive a b → Positive c d → Positive (a +ℤ c) (b +ℤ d)
positive_sum a b c d h k = sum_of a b c d (form a b h) (form c d k)

more : (a : ℤ) (k : ℕ) → a *ℤ pos (suc (suc k)) ≡ a *ℤ pos (suc k) +ℤ a
more a k = is_eq (is_mul (is_atom a) (is_lit (suc (suc k)))) (is_add (is_mul (is_atom a) (is_lit (suc k))) (is_atom a)) (omega arith)

once : (a : ℤ) → a *ℤ pos 1 ≡ a
once a = is_eq (is_mul (is_atom a) (is_lit 1)) (is_atom a) (omega arith)

-- a multiple by a whole number above zero
pub scaled : (a b : ℤ) (k : ℕ) → 0 < k → Positive a b → Positive (a *ℤ pos k) (b *ℤ pos k)
scaled a b zero p h = absurd (omega arith)
scaled a b (suc zero) p h = rw (once a, once b) h
scaled a b (suc (suc k)) p h = rw (more a k, more b k) (positive_sum (a *ℤ pos (suc k)) (b *ℤ pos (suc k)) a b (scaled a b (suc k) (omega arith) h) h)

pub zero_not : Positive (pos 0) (pos 0) → ⊥
zero_not h = elim h [ inl x ↦ omega (arith, ints, x.2) | inr y ↦ elim y [ inl x ↦ omega (arith, ints, x.0) | inr x ↦ omega (arith, ints, x.0) ] ]

gone : (a : ℤ) → a +ℤ neg_ℤ a ≡ pos 0
gone a = omega (arith, ints)

pub exclusive : (a b : ℤ) → Positive a b → Positive (neg_ℤ a) (neg_ℤ b) → ⊥
exclusive a b h k = zero_not (rw (gone a, gone b) at (positive_sum a b (neg_ℤ a) (neg_ℤ b) h k))

neg_scaled : (a : ℤ) (k : ℕ) → neg_ℤ a *ℤ pos k ≡ neg_ℤ (a *ℤ pos k)
neg_scaled a k = is_eq (is_mul (is_neg (is_atom a)) (is_lit k)) (is_neg (is_mul (is_atom a) (is_lit k))) (omega arith)

pub unscaled : (a b : ℤ) (k : ℕ) → 0 < k → Positive (a *ℤ pos k) (b *ℤ pos k) → Positive a b
unscaled a b k p h = elim (side a b) [
  | inl ok ↦ ok
  | inr y ↦ elim y [
    | inl x ↦ absurd (zero_not (rw (x.0, x.1, zero-mul) at h))
    | inr neg ↦ absurd (exclusive (a *ℤ pos k) (b *ℤ pos k) h (rw (← neg_scaled a k, ← neg_scaled b k) (scaled (neg_ℤ a) (neg_ℤ b) k p neg)))
  ]
]

-- the step between x and z is that from x to y and that from y to z
between : (x y z : ℤ) (d e f : ℕ) → (z *ℤ pos d -ℤ x *ℤ pos f) *ℤ pos e ≡ (y *ℤ pos d -ℤ x *ℤ pos e) *ℤ pos f +ℤ (z *ℤ pos e -ℤ y *ℤ pos f) *ℤ pos d
between x y z d e f =
    let X = is_atom x in let Y = is_atom y in let Z = is_atom z in let D = is_lit d in let E = is_lit e in let F = is_lit f in
    is_eq (is_mul (is_sub (is_mul Z D) (is_mul X F)) E)
    (is_add (is_mul (is_sub (is_mul Y D) (is_mul X E)) F) (is_mul (is_sub (is_mul Z E) (is_mul Y F)) D))
    (omega arith)

pub less_trans : (x y z : ExactNumber) → Less x y → Less y z → Less x z
less_trans x y z h k =
    unscaled _ _ (den y) (omega arith)
    (rw (between x.a y.a z.a (den x) (den y) (den z), between x.b y.b z.b (den x) (den y) (den z))
    (positive_sum _ _ _ _ (scaled _ _ (den z) (omega arith) h) (scaled _ _ (den x) (omega arith) k)))

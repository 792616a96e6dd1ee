-- A number has one whole part, and how large that of a multiple can be.
use Rattle.std.proofs.Common.{◌≡◌, ℕ, suc, ◌*◌, ◌<◌, ◌≤◌, ◌^◌, arith, sym, subst, ◌⊎◌, inl, inr}
use Rattle.std.specs.Prelude.{ℤ, pos, negsuc, neg_ℤ, ◌+ℤ◌, ◌-ℤ◌, ◌*ℤ◌, ◌≤ℤ◌, ◌<ℤ◌, unsigned_abs}
use Rattle.std.proofs.lemmas.Int.{ints, unsigned_abs-mul}
use Rattle.std.proofs.lemmas.Nat.{mul-le}
use Rattle.std.proofs.lemmas.Bool.{cases_lt}
use Rattle.exact.specs.Number.{ExactNumber, Positive, Less, AtMost, IsCanonical, den, mul, whole}
use Rattle.exact.specs.Floor.{IsFloor, integer}
use Rattle.exact.proofs.Positive.{less_trans}
use Rattle.exact.proofs.Order.{less_moved, same_turned}
use Rattle.exact.proofs.Ring.{is_eq, is_add, is_mul, is_atom, is_lit}

from_most : (x y z : ExactNumber) → AtMost x y → Less y z → Less x z
from_most x y z h l = elim h [ inl s ↦ less_moved y x z (same_turned x y s) l | inr k ↦ less_trans x y z k l ]

flat : (a : ℤ) → Positive a (pos 0) → pos 0 <ℤ a
flat a h = elim h [
  | inl x ↦ omega (arith, ints, x.2)
  | inr y ↦ elim y [ inl x ↦ absurd (omega (arith, ints, x.1)) | inr x ↦ absurd (omega (arith, ints, x.1)) ]
]

integer_less : (k l : ℤ) → Less (integer k) (integer l) → k <ℤ l
integer_less k l h = (let p = flat (l *ℤ pos 1 -ℤ k *ℤ pos 1) h in omega (arith, ints, p))

pub floor_is_one : (x : ExactNumber) (k l : ℤ) → IsFloor x k → IsFloor x l → k ≡ l
floor_is_one x k l p q =
    let a = integer_less k (l +ℤ pos 1) (from_most (integer k) x (integer (l +ℤ pos 1)) p.below q.above) in
    let b = integer_less l (k +ℤ pos 1) (from_most (integer l) x (integer (k +ℤ pos 1)) q.below p.above) in
    omega (arith, ints, a, b)

squares : (m q : ℕ) → m * m < 2 * (q * q) → m ≤ 2 * q
squares m q h = elim (cases_lt (2 * q) m) [
  | inl lt ↦ absurd (omega (arith, h, mul-le (2 * q) (2 * q) m m (omega arith) (omega arith)))
  | inr ge ↦ ge
]

-- a + b √2 is not above zero where a is below -2 b
from_below : (a b : ℤ) → Positive a b → neg_ℤ (pos (2 * unsigned_abs b)) ≤ℤ a
from_below (pos n) b h = omega (arith, ints)
from_below (negsuc n) (pos b) h = elim h [
  | inl x ↦ absurd (omega (arith, ints, x.0))
  | inr y ↦ elim y [
    | inl x ↦ absurd (omega (arith, ints, x.0))
    | inr x ↦ omega (arith, ints, squares (suc n) b (omega (arith, ints, x.2)))
  ]
]
from_below (negsuc n) (negsuc b) h = elim h [
  | inl x ↦ absurd (omega (arith, ints, x.0))
  | inr y ↦ elim y [ inl x ↦ absurd (omega (arith, ints, x.0)) | inr x ↦ absurd (omega (arith, ints, x.1)) ]
]

multiple_size : (n : ℕ) (a : ℤ) → n ≤ 400000000000000 → unsigned_abs a ≤ 2 ^ 48
    → unsigned_abs (pos n *ℤ a) ≤ 2 ^ 97
multiple_size n a h k =
    omega (arith, unsigned_abs-mul (pos n) a, mul-le n (unsigned_abs a) (2 ^ 49) (2 ^ 48) (omega arith) k)

-- the size of a whole number is at most that of a positive multiple of it
times : (k : ℤ) (d m : ℕ) → 0 < d → (k *ℤ pos d) ≤ℤ pos m → k ≤ℤ pos m
times (pos k) d m p h = (let l = mul-le k 1 k d (omega arith) p in omega (arith, ints, h, l))
times (negsuc k) d m p h = omega (arith, ints)

times_below : (k : ℤ) (d m : ℕ) → 0 < d → neg_ℤ (pos m) ≤ℤ (k *ℤ pos d) → neg_ℤ (pos m) ≤ℤ k
times_below (pos k) d m p h = omega (arith, ints)
times_below (negsuc k) d m p h =
    (let l = mul-le (suc k) 1 (suc k) d (omega arith) p in omega (arith, ints, h, l))

module _ (k a b : ℤ) (d : ℕ) (p : 0 < d) (ha : unsigned_abs a ≤ 2 ^ 97) (hb : unsigned_abs b ≤ 2 ^ 97) where
  most : ((k *ℤ pos d ≡ a *ℤ pos 1) × (pos 0 *ℤ pos d ≡ b *ℤ pos 1))
      ⊎ Positive (a *ℤ pos 1 -ℤ k *ℤ pos d) (b *ℤ pos 1 -ℤ pos 0 *ℤ pos d)
      → k ≤ℤ pos (3 * 2 ^ 97)
  most (inl e) = times k d (3 * 2 ^ 97) p (omega (arith, ints, e.0))
  most (inr h) = times k d (3 * 2 ^ 97) p (omega (arith, ints, from_below _ _ h))

  least : Positive ((k +ℤ pos 1) *ℤ pos d -ℤ a *ℤ pos 1) (pos 0 *ℤ pos d -ℤ b *ℤ pos 1)
      → neg_ℤ (pos (3 * 2 ^ 97)) ≤ℤ (k +ℤ pos 1)
  least h = times_below (k +ℤ pos 1) d (3 * 2 ^ 97) p (omega (arith, ints, from_below _ _ h))

part_a : (n : ℕ) (a b : ℤ) → pos n *ℤ a +ℤ pos 2 *ℤ (pos 0 *ℤ b) ≡ pos n *ℤ a
part_a n a b =
    is_eq (is_add (is_mul (is_lit n) (is_atom a)) (is_mul (is_lit 2) (is_mul (is_lit 0) (is_atom b))))
    (is_mul (is_lit n) (is_atom a)) (omega arith)

part_b : (n : ℕ) (a b : ℤ) → pos n *ℤ b +ℤ pos 0 *ℤ a ≡ pos n *ℤ b
part_b n a b =
    is_eq (is_add (is_mul (is_lit n) (is_atom b)) (is_mul (is_lit 0) (is_atom a)))
    (is_mul (is_lit n) (is_atom b)) (omega arith)

pub floor_size : (n : ℕ) (x : ExactNumber) (k : ℤ) → n ≤ 400000000000000 → IsCanonical x
    → AtMost (integer k) (mul (whole n) x) → Less (mul (whole n) x) (integer (k +ℤ pos 1)) → unsigned_abs k ≤ 2 ^ 99
floor_size n x k h c below above =
    let a = (mul (whole n) x).a in
    let b = (mul (whole n) x).b in
    let d = den (mul (whole n) x) in
    let ha = same_size (part_a n x.a x.b) (multiple_size n x.a h c.a) in
    let hb = same_size (part_b n x.a x.b) (multiple_size n x.b h c.b) in
    let up = most k a b d (omega arith) ha hb (elim below [ inl s ↦ inl (s.a, s.b) | inr l ↦ inr l ]) in
    let down = least k a b d (omega arith) ha hb above in
    omega (arith, ints, up, down)
  where
    same_size : {z w : ℤ} → z ≡ w → unsigned_abs w ≤ 2 ^ 97 → unsigned_abs z ≤ 2 ^ 97
    same_size e l = subst (λ z. unsigned_abs z ≤ 2 ^ 97) (sym e) l

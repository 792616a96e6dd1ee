-- Values of the code as numbers of the ring.
use Rattle.std.proofs.Common.{◌≡◌, ℕ, ◌+◌, ◌*◌, ◌<◌, ◌≤◌, ◌^◌, arith, refl, sym, ap, subst, ◌∙◌}
use Rattle.std.specs.Prelude.{ℤ, pos, neg_ℤ, ◌+ℤ◌, ◌-ℤ◌, ◌*ℤ◌, unsigned_abs}
use Rattle.std.proofs.lemmas.Int.{ints, unsigned_abs-mul}
use Rattle.std.proofs.lemmas.Nat.{mul-le}
use Rattle.exact.specs.Number.{ExactNumber, den, sub}
use Rattle.exact.proofs.Ring.{is_add, is_sub, is_neg, is_lit, is_atom, is_mul, is_eq}
use Rattle.geometry.specs.Root.{Root, plus, times, minus, count, size}
use Rattle.exact.specs.Plane.{ExactPoint, vector}
use Rattle.qroot2.specs.Wide.{Pair, IsWithin, HasUnitParts, pair_number, pair_sub}
use Rattle.geometry.specs.Gap.{num, dn, gx, gy}
use Rattle.geometry.proofs.Sizes.{scaled_within, times_within, size_plus, size_minus}
use Rattle.plane.specs.Ways.{root, offset_of}
use Rattle.geometry.proofs.RootRing.{both}
use Rattle.geometry.proofs.Gap.{scale}

made : (a b : ℤ) → Root
made a b = record { a = a; b = b }

-- the difference of two numbers above their denominators
pub difference_is : (x y : ExactNumber) (r : Root) → 0 < x.d → 0 < y.d → r.a ≡ x.a *ℤ pos y.d -ℤ y.a *ℤ pos x.d → r.b ≡ x.b *ℤ pos y.d -ℤ y.b *ℤ pos x.d → r ≡ num (sub x y)
unfolding num
difference_is x y r p q e f =
    let dx : x.d ≡ den x = omega (arith, p) in
    let dy : y.d ≡ den y = omega (arith, q) in
    both r (num (sub x y)) (e ∙ part x.a y.a x.d (den x) y.d (den y) dx dy) (f ∙ part x.b y.b x.d (den x) y.d (den y) dx dy)
  where
    part : (a b : ℤ) (d d' e e' : ℕ) → d ≡ d' → e ≡ e' → a *ℤ pos e -ℤ b *ℤ pos d ≡ a *ℤ pos e' +ℤ neg_ℤ b *ℤ pos d'
    part a b d d' e e' g h = rw (g, h) (is_eq (is_sub (is_mul (is_atom a) (is_lit e')) (is_mul (is_atom b) (is_lit d'))) (is_add (is_mul (is_atom a) (is_lit e')) (is_mul (is_neg (is_atom b)) (is_lit d'))) (omega arith))

pub product_is : (x y r : Root) → r.a ≡ x.a *ℤ y.a +ℤ (pos 2 *ℤ x.b) *ℤ y.b → r.b ≡ x.a *ℤ y.b +ℤ x.b *ℤ y.a → r ≡ times x y
unfolding times
product_is x y r e f = both r (times x y) (e ∙ is_eq (is_add (is_mul (is_atom x.a) (is_atom y.a)) (is_mul (is_mul (is_lit 2) (is_atom x.b)) (is_atom y.b))) (is_add (is_mul (is_atom x.a) (is_atom y.a)) (is_mul (is_lit 2) (is_mul (is_atom x.b) (is_atom y.b)))) (omega arith)) f

pub multiple_is : (x r : Root) (n : ℕ) → r.a ≡ x.a *ℤ pos n → r.b ≡ x.b *ℤ pos n → r ≡ times x (count n)
multiple_is x r n e f = both r _ e f ∙ sym (scale x n)

-- the two products of the whole part
pub first_within : (a b c d : ℤ) → 2 * ((unsigned_abs a + unsigned_abs b) * (unsigned_abs c + unsigned_abs d)) ≤ 2 ^ 120 → unsigned_abs a * unsigned_abs c + unsigned_abs (pos 2 *ℤ b) * unsigned_abs d ≤ 2 ^ 120
first_within a b c d h = let e : unsigned_abs (pos 2 *ℤ b) ≡ 2 * unsigned_abs b = unsigned_abs-mul (pos 2) b in rw e (omega arith)

pub gx_made : (p r p' r' : ExactPoint) (a w : Root) (n : ℕ) → w ≡ times a (count n) → a ≡ num (sub r.x p.x) → n ≡ den (sub r.y p.y) → p ≡ p' → r ≡ r' → w ≡ gx p' r'
unfolding gx dn
gx_made p r p' r' a w n e f g i j = rw (← i, ← j) (e ∙ rw (f, g) refl)

pub gy_made : (p r p' r' : ExactPoint) (a w : Root) (n : ℕ) → w ≡ times a (count n) → a ≡ num (sub r.y p.y) → n ≡ den (sub r.x p.x) → p ≡ p' → r ≡ r' → w ≡ gy p' r'
unfolding gy dn
gy_made p r p' r' a w n e f g i j = rw (← i, ← j) (e ∙ rw (f, g) refl)

pub multiple_within : (a w : Root) (n : ℕ) → w ≡ times a (count n) → size a ≤ 2 ^ 70 → n ≤ 2 ^ 40 → size w ≤ 2 ^ 110
multiple_within a w n e h k = rw e (omega (arith, scaled_within a n (2 ^ 70) (2 ^ 40) h k))

pub unit_size : (x : Pair) → HasUnitParts x → size (root x) ≤ 2
unit_size x h = omega (arith, h.0, h.1)

-- a number with small parts times another
pub part_within : (x y : Root) → size x ≤ 2 → size y ≤ 2 ^ 112 → 2 * (size x * size y) ≤ 2 ^ 120
part_within x y h k = omega (arith, mul-le (size x) (size y) 2 (2 ^ 112) h k)

pub parts_fit : (x y p q : Root) (u v : Pair) → root u ≡ times x p → root v ≡ times y q → size x ≤ 2 → size y ≤ 2 → size p ≤ 2 ^ 112 → size q ≤ 2 ^ 112 → IsWithin (pair_sub u v)
parts_fit x y p q u v e f h k l m = (
  omega (arith, ints, ap size e, ap size f, times_within x p 2 (2 ^ 112) h l, times_within y q 2 (2 ^ 112) k m),
  omega (arith, ints, ap size e, ap size f, times_within x p 2 (2 ^ 112) h l, times_within y q 2 (2 ^ 112) k m),
)

pub parts_size : (x y p q : Root) → size x ≤ 2 → size y ≤ 2 → size p ≤ 2 ^ 112 → size q ≤ 2 ^ 112 → size (plus (times x p) (minus (times y q))) ≤ 2 ^ 115
parts_size x y p q h k l m = omega (arith, size_plus (times x p) (minus (times y q)), size_minus (times y q), times_within x p 2 (2 ^ 112) h l, times_within y q 2 (2 ^ 112) k m)

difference_root : (u v : Pair) → root (pair_sub u v) ≡ plus (root u) (minus (root v))
unfolding plus minus
difference_root u v = both _ _ (omega (arith, ints)) (omega (arith, ints))

pub number_root : (u : Pair) (x : ExactNumber) → pair_number u ≡ x → root u ≡ num x
unfolding num
number_root u x e = ap (λ (z : ExactNumber). num z) e

pub parts_differ : (x y p q : Root) (u v w : Pair) → root u ≡ times x p → root v ≡ times y q → w ≡ pair_sub u v → root w ≡ plus (times x p) (minus (times y q))
parts_differ x y p q u v w e f i = ap root i ∙ difference_root u v ∙ rw (e, f) refl

pub offset_is : (k : ℕ) (x y w : Pair) (p q : Root) → pair_number x ≡ (vector k).x → pair_number y ≡ (vector k).y → root w ≡ plus (times (root x) q) (minus (times (root y) p)) → root w ≡ offset_of k p q
offset_is k x y w p q e f h = h ∙ rw (number_root x (vector k).x e, number_root y (vector k).y f) refl

pub parts_bound : (x y p q r : Root) → r ≡ plus (times x p) (minus (times y q)) → size x ≤ 2 → size y ≤ 2 → size p ≤ 2 ^ 112 → size q ≤ 2 ^ 112 → size r ≤ 2 ^ 115
parts_bound x y p q r e h k l m = subst (λ s. size s ≤ 2 ^ 115) (sym e) (parts_size x y p q h k l m)

pub numerator_is : (x : ExactNumber) (r : Root) → r.a ≡ x.a → r.b ≡ x.b → r ≡ num x
unfolding num
numerator_is x r e f = both r (num x) e f

pub origin_x : (p p' : ExactPoint) (a w : Root) (n : ℕ) → w ≡ times a (count n) → a ≡ num p.x → n ≡ den p.y → p ≡ p' → w ≡ times (num p'.x) (dn p'.y)
unfolding dn
origin_x p p' a w n e f g i = rw (← i) (e ∙ rw (f, g) refl)

pub origin_y : (p p' : ExactPoint) (a w : Root) (n : ℕ) → w ≡ times a (count n) → a ≡ num p.y → n ≡ den p.x → p ≡ p' → w ≡ times (num p'.y) (dn p'.x)
unfolding dn
origin_y p p' a w n e f g i = rw (← i) (e ∙ rw (f, g) refl)

pub origin_within : (a w : Root) (n : ℕ) → w ≡ times a (count n) → size a ≤ 2 ^ 49 → n ≤ 2 ^ 20 → size w ≤ 2 ^ 69
origin_within a w n e h k = rw e (omega (arith, scaled_within a n (2 ^ 49) (2 ^ 20) h k))

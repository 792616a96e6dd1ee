-- Whole parts that differ tell the order of the numbers.
use Rattle.std.proofs.Common.{◌≡◌, ℕ, zero, suc, arith, refl, sym, subst, inl, inr}
use Rattle.std.specs.Prelude.{ℤ, pos, negsuc, ◌+ℤ◌, ◌-ℤ◌, ◌*ℤ◌, ◌<ℤ◌, ◌≤ℤ◌}
use Rattle.std.proofs.lemmas.Int.{ints, clamps}
use Rattle.exact.specs.Number.{ExactNumber, Positive, Less, Same, den, mul, whole}
use Rattle.exact.specs.Floor.{IsFloor, integer}
use Rattle.exact.proofs.Order.{none_gap, less_moved, above_moved}
use Rattle.exact.proofs.Positive.{moved, less_trans, unscaled, zero_not}
use Rattle.exact.proofs.Told.{same_on}
use Rattle.exact.proofs.Ring.{is_eq, is_add, is_sub, is_mul, is_atom, is_lit}
use Rattle.forms.specs.Marks.{nearest}

one_gap : (i j : ℤ) → j *ℤ pos 1 -ℤ i *ℤ pos 1 ≡ j -ℤ i
one_gap i j = is_eq (is_sub (is_mul (is_atom j) (is_lit 1)) (is_mul (is_atom i) (is_lit 1))) (is_sub (is_atom j) (is_atom i)) (omega arith)

positive_whole : (z : ℤ) → pos 0 <ℤ z → Positive z (pos 0)
positive_whole z h = inl (omega (arith, ints, h), omega (arith, ints), omega (arith, ints, h))

whole_less : (i j : ℤ) → i <ℤ j → Less (integer i) (integer j)
whole_less i j h = subst (λ (z : ℤ). Positive z (pos 0)) (sym (one_gap i j)) (positive_whole (j -ℤ i) (omega (arith, ints, h)))

raised : (x : ExactNumber) (i j z : ℤ) → j -ℤ i ≡ z → Less x (integer i) → i ≤ℤ j → Less x (integer j)
raised x i j (pos zero) e h g = subst (λ (t : ℤ). Less x (integer t)) (sym (none_gap j i e)) h
raised x i j (pos (suc n)) e h g = less_trans x (integer i) (integer j) h (whole_less i j (omega (arith, ints, e)))
raised x i j (negsuc n) e h g = absurd (omega (arith, ints, e, g))

-- x < k + 1 ≤ l ≤ y
pub floors_tell : (x y : ExactNumber) (k l : ℤ) → IsFloor x k → IsFloor y l → k <ℤ l → Less x y
floors_tell x y k l h g lt =
    let below : Less x (integer l) = raised x (k +ℤ pos 1) l (l -ℤ (k +ℤ pos 1)) refl h.above (omega (arith, ints, lt)) in
    elim g.below [ inl s ↦ above_moved (integer l) y x s below | inr m ↦ less_trans x (integer l) y below m ]

-- a whole part is that of the number, however it is written
pub floor_same : (x y : ExactNumber) (k : ℤ) → Same x y → IsFloor x k → IsFloor y k
floor_same x y k s h = record {
  below = elim h.below [ inl e ↦ inl (same_on (integer k) x y e s) | inr l ↦ inr (above_moved x y (integer k) s l) ];
  above = less_moved x y (integer (k +ℤ pos 1)) s h.above;
}

pub nearest_tells : (f g : ℤ) → nearest f <ℤ nearest g → f <ℤ g
nearest_tells f g h = omega (arith, ints, clamps, h)

scaled_a : (n : ℕ) (a b c e : ℤ) (d f : ℕ) → (pos n *ℤ c +ℤ pos 2 *ℤ (pos 0 *ℤ e)) *ℤ pos d -ℤ (pos n *ℤ a +ℤ pos 2 *ℤ (pos 0 *ℤ b)) *ℤ pos f ≡ (c *ℤ pos d -ℤ a *ℤ pos f) *ℤ pos n
scaled_a n a b c e d f =
    let N = is_lit n in let A = is_atom a in let B = is_atom b in let C = is_atom c in let E = is_atom e in let D = is_lit d in let F = is_lit f in
    is_eq (is_sub (is_mul (is_add (is_mul N C) (is_mul (is_lit 2) (is_mul (is_lit 0) E))) D) (is_mul (is_add (is_mul N A) (is_mul (is_lit 2) (is_mul (is_lit 0) B))) F))
    (is_mul (is_sub (is_mul C D) (is_mul A F)) N) (omega arith)

scaled_b : (n : ℕ) (a b c e : ℤ) (d f : ℕ) → (pos n *ℤ e +ℤ pos 0 *ℤ c) *ℤ pos d -ℤ (pos n *ℤ b +ℤ pos 0 *ℤ a) *ℤ pos f ≡ (e *ℤ pos d -ℤ b *ℤ pos f) *ℤ pos n
scaled_b n a b c e d f =
    let N = is_lit n in let A = is_atom a in let B = is_atom b in let C = is_atom c in let E = is_atom e in let D = is_lit d in let F = is_lit f in
    is_eq (is_sub (is_mul (is_add (is_mul N E) (is_mul (is_lit 0) C)) D) (is_mul (is_add (is_mul N B) (is_mul (is_lit 0) A)) F))
    (is_mul (is_sub (is_mul E D) (is_mul B F)) N) (omega arith)

none : (a : ℤ) → a *ℤ pos 0 ≡ pos 0
none a = is_eq (is_mul (is_atom a) (is_lit 0)) (is_lit 0) (omega arith)

unscaled_any : (a b : ℤ) (k : ℕ) → Positive (a *ℤ pos k) (b *ℤ pos k) → Positive a b
unscaled_any a b zero h = absurd (zero_not (moved _ _ _ _ (sym (none a)) (sym (none b)) h))
unscaled_any a b (suc k) h = unscaled a b (suc k) (omega arith) h

den_scaled : (n : ℕ) (x : ExactNumber) → den (mul (whole n) x) ≡ den x
den_scaled n x = omega arith

-- the order of multiples by one whole number
pub less_scaled : (n : ℕ) (x y : ExactNumber) → Less (mul (whole n) x) (mul (whole n) y) → Less x y
less_scaled n x y h =
    let X : ExactNumber = mul (whole n) x in let Y : ExactNumber = mul (whole n) y in
    let g : Positive (Y.a *ℤ pos (den x) -ℤ X.a *ℤ pos (den Y)) (Y.b *ℤ pos (den x) -ℤ X.b *ℤ pos (den Y)) = subst (λ (t : ℕ). Positive (Y.a *ℤ pos t -ℤ X.a *ℤ pos (den Y)) (Y.b *ℤ pos t -ℤ X.b *ℤ pos (den Y))) (den_scaled n x) h in
    let f : Positive (Y.a *ℤ pos (den x) -ℤ X.a *ℤ pos (den y)) (Y.b *ℤ pos (den x) -ℤ X.b *ℤ pos (den y)) = subst (λ (t : ℕ). Positive (Y.a *ℤ pos (den x) -ℤ X.a *ℤ pos t) (Y.b *ℤ pos (den x) -ℤ X.b *ℤ pos t)) (den_scaled n y) g in
    unscaled_any (y.a *ℤ pos (den x) -ℤ x.a *ℤ pos (den y)) (y.b *ℤ pos (den x) -ℤ x.b *ℤ pos (den y)) n
    (moved _ _ _ _ (sym (scaled_a n x.a x.b y.a y.b (den x) (den y))) (sym (scaled_b n x.a x.b y.a y.b (den x) (den y))) f)

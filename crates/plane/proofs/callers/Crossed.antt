-- The common point of two lines, from its numerators over a common denominator.
use Rattle.std.proofs.Common.{◌≡◌, ◌≢◌, ℕ, ◌*◌, ◌%◌, ◌<◌, ◌≤◌, ◌^◌, max, refl, sym, ap, subst, ◌∙◌, ◌⊎◌, inl, inr, arith}
use Rattle.std.specs.Prelude.{ℤ, pos, negsuc, neg_ℤ, ◌+ℤ◌, ◌*ℤ◌, unsigned_abs, int_lt, true, Option, Some, None, IfSome, IfNone}
use Rattle.exact.specs.Number.{ExactNumber, Same, IsCanonical, IsRepresentable, den}
use Rattle.exact.specs.Plane.{ExactPoint, SamePoint, IsPointRepresentable, vector, turn}
use Rattle.exact.proofs.Ring.{is_add, is_neg, is_lit, is_atom, is_mul, is_eq}
use Rattle.exact.proofs.Unique.{same_trans}
use Rattle.exact.proofs.Told.{same_itself}
use Rattle.std.proofs.lemmas.Int.{ints, unsigned_abs-mul}
use Rattle.std.proofs.lemmas.Nat.{mul-le}
use borrow.Author.Tests.{ltb-true}
use Rattle.qroot2.specs.Wide.{Pair, pair_number}
use Rattle.geometry.specs.Root.{Root, plus, times, minus, count, size}
use Rattle.geometry.specs.Gap.{num, dn, det, norm, partner, signed_as}
use Rattle.geometry.proofs.RootRing.{both}
use Rattle.geometry.proofs.Domain.{above_count}
use Rattle.geometry.proofs.Gap.{same_num, count_product}
use Rattle.geometry.proofs.Lines.{On, on_from, one_point, weight}
use Rattle.geometry.proofs.Parts.{solution, from_inverse, level_of}
use Rattle.geometry.proofs.Partner.{partner_times, norm_size}
use Rattle.geometry.proofs.Directions.{not_parallel, vector_whole}
use Rattle.geometry.proofs.Found.{turn_det, turn_on}
use Rattle.geometry.proofs.Sizes.{det_within, turned_within, scaled_within, size_scaled, sum_size}
use Rattle.plane.specs.Ways.{root, offset_of}
use Rattle.plane.specs.Sides.{IsOnLine}
use Rattle.plane.specs.Crossings.{over, weight_of, lift_of}
use Rattle.plane.proofs.Numerators.{number_root}
use Rattle.exact.proofs.Kept.{tall}

-- the determinant of two directions
pub det_told : (k j : ℕ) (d : Pair) → pair_number d ≡ turn (vector j) (vector k) → root d ≡ det (vector j) (vector k)
det_told k j d e = number_root d (turn (vector j) (vector k)) e ∙ turn_det (vector j) (vector k) (vector_whole j) (vector_whole k)

pub det_small : (k j : ℕ) (d : Root) → d ≡ det (vector j) (vector k) → size d ≤ 16
det_small k j d e = subst (λ r. size r ≤ 16) (sym e) (det_within k j)

pub whole_small : (k j : ℕ) (d : Root) → k < 16 → j < 16 → k % 8 ≢ j % 8 → d ≡ det (vector j) (vector k) → (0 < unsigned_abs (norm d)) × (unsigned_abs (norm d) < 9)
whole_small k j d h l n e = subst (λ r. (0 < unsigned_abs (norm r)) × (unsigned_abs (norm r) < 9)) (sym e) (norm_size k j h l n)

-- how far a line is from the origin, within bounds
pub lift_fits : (k : ℕ) (x y o : Root) (n : ℕ) → o ≡ offset_of k x y → size x ≤ 2 ^ 69 → size y ≤ 2 ^ 69 → n ≤ 2 ^ 40 → size o * n ≤ 2 ^ 112
lift_fits k x y o n e h l m = (let b : size o ≤ 8 * 2 ^ 69 = subst (λ r. size r ≤ 8 * 2 ^ 69) (sym e) (turned_within k x y (2 ^ 69) h l) in omega (arith, scaled_within o n (2 ^ 72) (2 ^ 40) (omega arith) m, scaled o n))
  where
    scaled : (o : Root) (n : ℕ) → size o * n ≤ size (times o (count n))
    scaled o n = omega (arith, size_scaled o n)

pub lift_within : (o r : Root) (n : ℕ) → size o * n ≤ 2 ^ 112 → r ≡ times o (count n) → size r ≤ 2 ^ 112
lift_within o r n h e = omega (arith, ap size e, size_scaled o n)

-- the numerators, for x and for y
abbrev numerator_x : ℕ → ℕ → ExactPoint → ExactPoint → Root
numerator_x k j p l = plus (times (num (vector k).x) (lift_of j l p)) (minus (times (num (vector j).x) (lift_of k p l)))

abbrev numerator_y : ℕ → ℕ → ExactPoint → ExactPoint → Root
numerator_y k j p l = plus (times (num (vector k).y) (lift_of j l p)) (minus (times (num (vector j).y) (lift_of k p l)))

abbrev below_of : ℕ → ℕ → ExactPoint → ExactPoint → ℕ
below_of k j p l = unsigned_abs (norm (det (vector j) (vector k))) * (weight_of p * weight_of l)

-- the point itself
abbrev pub crossing : ℕ → ℕ → ExactPoint → ExactPoint → ExactPoint
crossing k j p l = record {
  x = over (times (numerator_x k j p l) (partner (det (vector j) (vector k)))) (below_of k j p l);
  y = over (times (numerator_y k j p l) (partner (det (vector j) (vector k)))) (below_of k j p l);
}

pub num_over : (r : Root) (m : ℕ) → num (over r m) ≡ r
unfolding num
num_over r m = refl

pub dn_over : (r : Root) (m w : ℕ) → 0 < m → 0 < w → dn (over r (m * w)) ≡ times (count m) (count w)
unfolding dn
dn_over r m w h k = ap count (tall m w h k) ∙ count_product m w

pub count_weight : (p : ExactPoint) → count (weight_of p) ≡ weight p
unfolding weight dn
count_weight p = count_product (den p.x) (den p.y)

pub weight_above : (p : ExactPoint) → 0 < weight_of p
weight_above p = (let h : max 1 (den p.x * den p.y) ≡ den p.x * den p.y = tall (den p.x) (den p.y) (omega arith) (omega arith) in omega arith)

lift_is : (k : ℕ) (p other : ExactPoint) → lift_of k p other ≡ times (level_of (vector k) p) (weight other)
unfolding level_of
lift_is k p other = ap (times (level_of (vector k) p)) (count_weight other)

weights : (p l : ExactPoint) → count (weight_of p * weight_of l) ≡ times (weight p) (weight l)
weights p l = count_product (weight_of p) (weight_of l) ∙ rw (count_weight p, count_weight l) refl

both_above : (m n : ℕ) → 0 < m → 0 < n → 0 < m * n
both_above m n h k = (let e : max 1 (m * n) ≡ m * n = tall m n h k in omega arith)

field : (c : ExactNumber) (D W X : Root) (w : ℕ) → 0 < unsigned_abs (norm D) → 0 < w → count w ≡ W → Same c (over (times X (partner D)) (unsigned_abs (norm D) * w)) → times (num c) (times D W) ≡ times (dn c) X
field c D W X w h k e s = from_inverse (num c) D (partner D) W X (count (unsigned_abs (norm D))) (dn c) (above_count (unsigned_abs (norm D)) h) (partner_times D)
    (ap (times (num c)) (ap (times (count (unsigned_abs (norm D)))) (sym e) ∙ sym (dn_over (times X (partner D)) (unsigned_abs (norm D)) w h k))
    ∙ same_num c (over (times X (partner D)) (unsigned_abs (norm D) * w)) s ∙ ap (λ t. times t (dn c)) (num_over (times X (partner D)) (unsigned_abs (norm D) * w)))

-- what is that point is on both lines
pub crossing_on : (k j : ℕ) (p l c : ExactPoint) → k < 16 → j < 16 → k % 8 ≢ j % 8 → SamePoint c (crossing k j p l) → On (vector k) p c × On (vector j) l c
crossing_on k j p l c h i n s = solution (vector k) (vector j) p l c (not_parallel k j h i n) (not_parallel j k i h (λ e. n (sym e))) (record {
  x = field c.x (det (vector j) (vector k)) (times (weight p) (weight l)) (numerator_x k j p l) (weight_of p * weight_of l) (norm_size k j h i n).0 (both_above (weight_of p) (weight_of l) (weight_above p) (weight_above l)) (weights p l) s.x
      ∙ ap (times (dn c.x)) (rw (lift_is j l p, lift_is k p l) refl);
  y = field c.y (det (vector j) (vector k)) (times (weight p) (weight l)) (numerator_y k j p l) (weight_of p * weight_of l) (norm_size k j h i n).0 (both_above (weight_of p) (weight_of l) (weight_above p) (weight_above l)) (weights p l) s.y
      ∙ ap (times (dn c.y)) (rw (lift_is j l p, lift_is k p l) refl);
})

pub crossing_itself : (k j : ℕ) (p l : ExactPoint) → k < 16 → j < 16 → k % 8 ≢ j % 8 → On (vector k) p (crossing k j p l) × On (vector j) l (crossing k j p l)
crossing_itself k j p l h i n = crossing_on k j p l (crossing k j p l) h i n (record { x = same_itself (crossing k j p l).x; y = same_itself (crossing k j p l).y })

-- and no other point is
pub crossing_only : (k j : ℕ) (p l c : ExactPoint) → k < 16 → j < 16 → k % 8 ≢ j % 8 → On (vector k) p c → On (vector j) l c → SamePoint c (crossing k j p l)
crossing_only k j p l c h i n a b = (let z = crossing_itself k j p l h i n in one_point (vector k) (vector j) c (crossing k j p l) (not_parallel k j h i n) (on_from (vector k) p c (crossing k j p l) a z.0) (on_from (vector j) l c (crossing k j p l) b z.1))

pub held : (x y : ExactNumber) → Same x y → IsRepresentable x → IsRepresentable y
held x y s r = (r.0, same_trans x y r.0 s r.1, r.2)

-- what the code answers
pub none_held : (k j : ℕ) (p l : ExactPoint) → k < 16 → j < 16 → k % 8 ≢ j % 8 → (¬ IsRepresentable (crossing k j p l).x) ⊎ (¬ IsRepresentable (crossing k j p l).y)
    → (c : ExactPoint) → IsOnLine p k c → IsOnLine l j c → ¬ IsPointRepresentable c
none_held k j p l h i n r c a b x = (let s = crossing_only k j p l c h i n ((turn_on k p c).0 a) ((turn_on j l c).0 b) in elim r [
  | inl f ↦ f (held c.x (crossing k j p l).x s.x x.0)
  | inr f ↦ f (held c.y (crossing k j p l).y s.y x.1)
])

pub some_held : (k j : ℕ) (p l c : ExactPoint) → k < 16 → j < 16 → k % 8 ≢ j % 8 → Same c.x (crossing k j p l).x → Same c.y (crossing k j p l).y → IsOnLine p k c × IsOnLine l j c
some_held k j p l c h i n s t = (let z = crossing_on k j p l c h i n (record { x = s; y = t }) in ((turn_on k p c).1 z.0, (turn_on j l c).1 z.1))

-- the code's values are those of the point
pub over_x : (k j : ℕ) (p l : ExactPoint) (vx wx a b top by D : Root) (m : ℕ) → top ≡ plus (times vx a) (minus (times wx b)) → vx ≡ num (vector k).x → wx ≡ num (vector j).x → a ≡ lift_of j l p → b ≡ lift_of k p l
    → by ≡ partner D → D ≡ det (vector j) (vector k) → m ≡ unsigned_abs (norm D) * (weight_of p * weight_of l) → over (times top by) m ≡ (crossing k j p l).x
over_x k j p l vx wx a b top by D m e f g h i q d o = rw (e, f, g, h, i, q, o, d) refl

pub over_y : (k j : ℕ) (p l : ExactPoint) (vy wy a b top by D : Root) (m : ℕ) → top ≡ plus (times vy a) (minus (times wy b)) → vy ≡ num (vector k).y → wy ≡ num (vector j).y → a ≡ lift_of j l p → b ≡ lift_of k p l
    → by ≡ partner D → D ≡ det (vector j) (vector k) → m ≡ unsigned_abs (norm D) * (weight_of p * weight_of l) → over (times top by) m ≡ (crossing k j p l).y
over_y k j p l vy wy a b top by D m e f g h i q d o = rw (e, f, g, h, i, q, o, d) refl

pub none_any : (o : Option ExactPoint) (P : Type 0) → P → IfNone o P
none_any None P h = h
none_any (Some c) P h = tt

-- what `Num::new` answers
pub quotient_some : (o : Option ExactNumber) (a b : ℤ) (d m : ℕ) (r : Root) → a ≡ r.a → b ≡ r.b → d ≡ m → IfSome o (λ n. Same n (record { a = a; b = b; d = d }) × IsCanonical n) → IfSome o (λ x. Same x (over r m) × IsCanonical x)
quotient_some None a b d m r e f g h = tt
quotient_some (Some n) a b d m r e f g h = rw (← e, ← f, ← g) h

-- the norm, and the partner where it is below zero
pub norm_told : (x : Root) (r : ℤ) → r ≡ x.a *ℤ x.a +ℤ (neg_ℤ (pos 2) *ℤ x.b) *ℤ x.b → r ≡ norm x
norm_told x r e = e ∙ is_eq (is_add (is_mul (is_atom x.a) (is_atom x.a)) (is_mul (is_mul (is_neg (is_lit 2)) (is_atom x.b)) (is_atom x.b))) (is_add (is_mul (is_atom x.a) (is_atom x.a)) (is_neg (is_mul (is_lit 2) (is_mul (is_atom x.b) (is_atom x.b))))) (omega arith)

pub norm_within : (x : Root) → size x ≤ 16 → unsigned_abs (norm x) ≤ 1024
norm_within x h = omega (
  arith,
  sum_size (x.a *ℤ x.a) (neg_ℤ (pos 2 *ℤ (x.b *ℤ x.b))),
  down (pos 2 *ℤ (x.b *ℤ x.b)),
  unsigned_abs-mul x.a x.a,
  unsigned_abs-mul (pos 2) (x.b *ℤ x.b),
  unsigned_abs-mul x.b x.b,
  mul-le (unsigned_abs x.a) (unsigned_abs x.a) 16 16 (omega arith) (omega arith),
  mul-le (unsigned_abs x.b) (unsigned_abs x.b) 16 16 (omega arith) (omega arith),
)
  where
    down : (z : ℤ) → unsigned_abs (neg_ℤ z) ≡ unsigned_abs z
    down z = omega (arith, ints)

pub partner_down : (x r : Root) (z : ℤ) → int_lt z (pos 0) ≡ true → z ≡ norm x → r.a ≡ neg_ℤ x.a → r.b ≡ x.b → r ≡ partner x
unfolding minus
partner_down x r (pos n) t e f g = absurd (omega (arith, ltb-true n 0 t))
partner_down x r (negsuc n) t e f g = both r (minus (record { a = x.a; b = neg_ℤ x.b })) f (g ∙ turned x.b) ∙ ap (λ z. signed_as z (record { a = x.a; b = neg_ℤ x.b })) e
  where
    turned : (b : ℤ) → b ≡ neg_ℤ (neg_ℤ b)
    turned b = omega (arith, ints)

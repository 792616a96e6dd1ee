-- The image of a point in a line, from its numerators over a common denominator.
use Rattle.std.proofs.Common.{◌≡◌, ◌≢◌, ℕ, ◌+◌, ◌*◌, ◌%◌, ◌<◌, ◌≤◌, ◌^◌, Bool, true, false, cond, eqb, ltb, [], ◌∷◌, refl, sym, ap, subst, ◌∙◌, ◌⊎◌, inl, inr, arith}
use Rattle.std.specs.Prelude.{ℤ, pos, negsuc, ◌+ℤ◌, unsigned_abs, Option, Some, None, IfNone}
use Rattle.std.specs.Int.{cast_signed, cast_unsigned, w128}
use Rattle.std.proofs.lemmas.Int.{ints}
use Rattle.exact.proofs.Told.{same_itself}
use Rattle.qroot2.specs.Wide.{Pair, pair_number, pair_add, pair_neg}
use Rattle.plane.specs.Ways.{root}
use Rattle.plane.proofs.Passed.{passed_as}
use Rattle.plane.proofs.Numerators.{number_root}
use Rattle.std.proofs.lemmas.Bool.Decides.{nat_tests}
use Rattle.exact.specs.Number.{ExactNumber, Same, IsRepresentable, den, sub, mul as mul_exact, neg as neg_exact}
use Rattle.exact.specs.Plane.{ExactPoint, SamePoint, IsPointRepresentable, vector}
use Rattle.geometry.specs.Root.{Root, plus, times, minus, count, size, Above}
use Rattle.geometry.specs.Gap.{num, dn, gx, gy, cross}
use Rattle.geometry.proofs.RootRing.{both, plus_comm, plus_zero, plus_minus, times_comm, cancel_plus}
use Rattle.geometry.proofs.Solve.{at, one, add, mul, opp, solve, times_zero, zero_plus}
use Rattle.geometry.proofs.Gap.{difference_none, none_difference, num_sub, dn_sub, dn_mul, same_num, num_same, out_right, cancel_times, count_product, dn_one}
use Rattle.geometry.proofs.Lines.{On, on_from, on_back, on_trans, on_same, one_point, weight, weight_above, chain}
use Rattle.geometry.proofs.Directions.{not_parallel, vector_whole}
use Rattle.geometry.proofs.Found.{turn_cross, turn_on}
use Rattle.geometry.proofs.Sizes.{size_minus, sum_size, no_size}
use Rattle.plane.specs.Sides.{turn_of}
use Rattle.plane.specs.Crossings.{over, weight_of}
use Rattle.plane.specs.Images.{AreTurned, IsFoot, IsImage}
use Rattle.plane.proofs.callers.Crossed.{num_over, dn_over, count_weight, crossing, crossing_itself, held}
use Rattle.plane.proofs.callers.Crossed as crossed
use Rattle.exact.proofs.Turns.{all_below, all_below_at}

-- the direction a quarter turn on
abbrev pub aside : ℕ → ℕ
aside k = (k + 4) % 16

-- two points equally far aside, seen from a third one
pub gap_same : (u a q r : ExactPoint) → times (cross u a q) (weight r) ≡ times (cross u a r) (weight q) → On u q r
gap_same u a q r e = record {
  on = out_right (cross u q r) (weight a) (weight_above a) (
      cancel_plus (times (cross u q r) (weight a)) (count 0) (times (cross u a q) (weight r))
      (plus_comm _ _ ∙ sym (chain u a q r) ∙ sym e ∙ sym (zero_plus _)));
}

-- the denominator of the turn to the way from a to r
pub dn_turn : (k : ℕ) (a r : ExactPoint) → dn (turn_of a k r) ≡ times (weight a) (weight r)
unfolding weight
dn_turn k a r =
    let v = vector k in
    let w = vector_whole k in
    dn_sub (mul_exact v.x (sub r.y a.y)) (mul_exact v.y (sub r.x a.x))
    ∙ rw (dn_mul v.x (sub r.y a.y), dn_mul v.y (sub r.x a.x), dn_one v.x w.x, dn_one v.y w.y, dn_sub r.y a.y, dn_sub r.x a.x)
    (solve (dn a.x ∷ dn a.y ∷ dn r.x ∷ dn r.y ∷ []) (mul (mul one (mul (at 3) (at 1))) (mul one (mul (at 2) (at 0)))) (mul (mul (at 0) (at 1)) (mul (at 2) (at 3))) refl)

num_neg : (x : ExactNumber) → num (neg_exact x) ≡ minus (num x)
unfolding num minus
num_neg x = refl

dn_neg : (x : ExactNumber) → dn (neg_exact x) ≡ dn x
unfolding dn
dn_neg x = refl

-- equally far on opposite sides
pub record Opposite (k : ℕ) (a p q : ExactPoint) : Type 0 where
  pub is : times (cross (vector k) a q) (weight p) ≡ minus (times (cross (vector k) a p) (weight q))

regroup_in : (cq cp wa wp wq : Root) → times cq wp ≡ minus (times cp wq) → times cq (times wa wp) ≡ times (minus cp) (times wa wq)
regroup_in cq cp wa wp wq e =
    solve (cq ∷ wa ∷ wp ∷ []) (mul (at 0) (mul (at 1) (at 2))) (mul (at 1) (mul (at 0) (at 2))) refl
    ∙ ap (times wa) e
    ∙ solve (cp ∷ wa ∷ wq ∷ []) (mul (at 1) (opp (mul (at 0) (at 2)))) (mul (opp (at 0)) (mul (at 1) (at 2))) refl

pub regroup_out : (cq cp wa wp wq : Root) → Above wa → times cq (times wa wp) ≡ times (minus cp) (times wa wq) → times cq wp ≡ minus (times cp wq)
regroup_out cq cp wa wp wq h e = cancel_times (times cq wp) (minus (times cp wq)) wa h (
    solve (cq ∷ wa ∷ wp ∷ []) (mul (mul (at 0) (at 2)) (at 1)) (mul (at 0) (mul (at 1) (at 2))) refl
    ∙ e
    ∙ solve (cp ∷ wa ∷ wq ∷ []) (mul (opp (at 0)) (mul (at 1) (at 2))) (mul (opp (mul (at 0) (at 2))) (at 1)) refl)

opposite_same : (k : ℕ) (a p q : ExactPoint) → Opposite k a p q → Same (turn_of a k q) (neg_exact (turn_of a k p))
opposite_same k a p q o = num_same (turn_of a k q) (neg_exact (turn_of a k p)) (
    rw (dn_neg (turn_of a k p), num_neg (turn_of a k p), dn_turn k a p, dn_turn k a q, turn_cross (vector k) a q (vector_whole k), turn_cross (vector k) a p (vector_whole k))
    (regroup_in (cross (vector k) a q) (cross (vector k) a p) (weight a) (weight p) (weight q) o.is))

same_opposite : (k : ℕ) (a p q : ExactPoint) → Same (turn_of a k q) (neg_exact (turn_of a k p)) → Opposite k a p q
same_opposite k a p q s = record {
  is = regroup_out (cross (vector k) a q) (cross (vector k) a p) (weight a) (weight p) (weight q) (weight_above a) (
      rw (dn_neg (turn_of a k p), num_neg (turn_of a k p), dn_turn k a p, dn_turn k a q, turn_cross (vector k) a q (vector_whole k), turn_cross (vector k) a p (vector_whole k))
      at (same_num (turn_of a k q) (neg_exact (turn_of a k p)) s));
}

-- two points that lie as far on the other side as p
pub both_opposite : (k : ℕ) (a p q r : ExactPoint) → Opposite k a p q → Opposite k a p r → On (vector k) q r
both_opposite k a p q r s t = gap_same (vector k) a q r (cancel_times _ _ (weight p) (weight_above p) (
    solve (cross (vector k) a q ∷ weight p ∷ weight r ∷ []) (mul (mul (at 0) (at 2)) (at 1)) (mul (mul (at 0) (at 1)) (at 2)) refl
    ∙ ap (λ z. times z (weight r)) s.is
    ∙ solve (cross (vector k) a p ∷ weight q ∷ weight r ∷ []) (mul (opp (mul (at 0) (at 1))) (at 2)) (mul (opp (mul (at 0) (at 2))) (at 1)) refl
    ∙ ap (λ z. times z (weight q)) (sym t.is)
    ∙ solve (cross (vector k) a r ∷ weight p ∷ weight q ∷ []) (mul (mul (at 0) (at 1)) (at 2)) (mul (mul (at 0) (at 2)) (at 1)) refl))

pub not_along : (k : ℕ) → k < 16 → k % 8 ≢ aside k % 8
not_along k h e = omega arith

aside_small : (k : ℕ) → aside k < 16
aside_small k = omega arith

-- both have one foot: the way between them leads a quarter turn aside
feet_on : (k : ℕ) (a p q f : ExactPoint) → IsFoot a k p f → IsFoot a k q f → On (vector (aside k)) p q
feet_on k a p q f h g = on_from (vector (aside k)) f p q ((turn_on (aside k) f p).0 h.upright) ((turn_on (aside k) f q).0 g.upright)

-- a point has one image
pub image_only : (k : ℕ) (a p q r : ExactPoint) → k < 16 → IsImage a k p q → IsImage a k p r → SamePoint q r
image_only k a p q r h s t = one_point (vector k) (vector (aside k)) q r (not_parallel k (aside k) h (aside_small k) (not_along k h))
    (both_opposite k a p q r (same_opposite k a p q s.opposite) (same_opposite k a p r t.opposite))
    (on_from (vector (aside k)) p q r (feet_on k a p q s.foot.0 s.foot.1 s.foot.2) (feet_on k a p r t.foot.0 t.foot.1 t.foot.2))

-- what lies as far on the other side, along a quarter turn, is the image
pub image_from : (k : ℕ) (a p q : ExactPoint) → k < 16 → Opposite k a p q → On (vector (aside k)) p q → IsImage a k p q
image_from k a p q h o u =
    let f = crossing k (aside k) a p in
    let z = crossing_itself k (aside k) a p h (aside_small k) (not_along k h) in
    let on = (turn_on k a f).1 z.0 in
    record {
      foot = (f, record { on_axis = on; upright = (turn_on (aside k) f p).1 (on_back (vector (aside k)) p f z.1) }, record { on_axis = on; upright = (turn_on (aside k) f q).1 (on_from (vector (aside k)) p f q z.1 u) });
      opposite = opposite_same k a p q o;
    }

-- the vector a quarter turn on, by one test of all directions
aside_test : ℕ → Bool
unfolding num minus
aside_test k = cond (eqb (size (plus (num (vector (aside k)).x) (num (vector k).y))) 0) (eqb (size (plus (num (vector (aside k)).y) (minus (num (vector k).x)))) 0) false

aside_tested : all_below 16 aside_test ≡ true
unfolding aside_test num minus plus
aside_tested = refl

pub tested : (m n : ℕ) → cond (eqb m 0) (eqb n 0) false ≡ true → (m ≡ 0) × (n ≡ 0)
tested m n e = (grind (arith, nat_tests), grind (arith, nat_tests))

none_minus : (x y : Root) → plus x y ≡ count 0 → x ≡ minus y
none_minus x y e = cancel_plus x (minus y) y (e ∙ sym (plus_comm (minus y) y ∙ plus_minus y))

pub aside_vector : (k : ℕ) → k < 16 → (num (vector (aside k)).x ≡ minus (num (vector k).y)) × (num (vector (aside k)).y ≡ num (vector k).x)
unfolding aside_test
aside_vector k h =
    let t = tested (size (plus (num (vector (aside k)).x) (num (vector k).y))) (size (plus (num (vector (aside k)).y) (minus (num (vector k).x)))) (all_below_at 16 aside_test aside_tested k h) in
    (none_minus _ _ (no_size _ t.0), difference_none _ _ (no_size _ t.1))

-- The image as the code makes it: from a point of the line, by the numerators of the turned way.
abbrev pub image_of : ExactPoint → ExactPoint → Root → Root → ExactPoint
image_of a p rx ry = record {
  x = over (plus (times (times (num a.x) (dn a.y)) (count (2 * weight_of p))) rx) (weight_of a * (2 * weight_of p));
  y = over (plus (times (times (num a.y) (dn a.x)) (count (2 * weight_of p))) ry) (weight_of a * (2 * weight_of p));
}

others_is : (p : ExactPoint) → count (2 * weight_of p) ≡ times (count 2) (weight p)
others_is p = count_product 2 (weight_of p) ∙ ap (times (count 2)) (count_weight p)

twice_above : (p : ExactPoint) → 0 < 2 * weight_of p
twice_above p = (let h = crossed.weight_above p in omega arith)

below_is : (r : Root) (a p : ExactPoint) → dn (over r (weight_of a * (2 * weight_of p))) ≡ times (weight a) (times (count 2) (weight p))
below_is r a p = dn_over r (weight_of a) (2 * weight_of p) (crossed.weight_above a) (twice_above p) ∙ rw (count_weight a, others_is p) refl

gap_part : (q b qy by : ExactNumber) (m E F O r : Root) → num q ≡ plus (times (times m F) O) r → dn q ≡ times (times E F) O → num b ≡ m → dn b ≡ E → dn qy ≡ times (times E F) O → dn by ≡ F
    → times (num (sub q b)) (dn (sub qy by)) ≡ times (times r E) (times (times (times E F) O) F)
gap_part q b qy by m E F O r e f g h i j = rw (num_sub q b, dn_sub qy by, e, f, g, h, i, j)
    (solve (m ∷ E ∷ F ∷ O ∷ r ∷ [])
    (mul (add (mul (add (mul (mul (at 0) (at 2)) (at 3)) (at 4)) (at 1)) (opp (mul (at 0) (mul (mul (at 1) (at 2)) (at 3))))) (mul (mul (mul (at 1) (at 2)) (at 3)) (at 2)))
    (mul (mul (at 4) (at 1)) (mul (mul (mul (at 1) (at 2)) (at 3)) (at 2))) refl)

gap_x : (a p : ExactPoint) (rx ry : Root) → gx a (image_of a p rx ry) ≡ times (times rx (dn a.x)) (times (times (times (dn a.x) (dn a.y)) (times (count 2) (weight p))) (dn a.y))
unfolding gx weight
gap_x a p rx ry = (let q = image_of a p rx ry in gap_part q.x a.x q.y a.y (num a.x) (dn a.x) (dn a.y) (times (count 2) (weight p)) rx (num_over _ _ ∙ ap (λ o. plus (times (times (num a.x) (dn a.y)) o) rx) (others_is p)) (below_is _ a p) refl refl (below_is _ a p) refl)

gap_y : (a p : ExactPoint) (rx ry : Root) → gy a (image_of a p rx ry) ≡ times (times ry (dn a.y)) (times (times (times (dn a.y) (dn a.x)) (times (count 2) (weight p))) (dn a.x))
unfolding gy weight
gap_y a p rx ry = (let q = image_of a p rx ry in gap_part q.y a.y q.x a.x (num a.y) (dn a.y) (dn a.x) (times (count 2) (weight p)) ry (num_over _ _ ∙ ap (λ o. plus (times (times (num a.y) (dn a.x)) o) ry) (others_is p)) (below_is _ a p ∙ ap (λ e. times e (times (count 2) (weight p))) (times_comm (dn a.x) (dn a.y))) refl refl (below_is _ a p ∙ ap (λ e. times e (times (count 2) (weight p))) (times_comm (dn a.x) (dn a.y))) refl)

-- the product of all denominators, twice
abbrev full : ExactPoint → ExactPoint → Root
full a p = times (weight a) (times (count 2) (weight p))

cross_image : (u a p : ExactPoint) (rx ry : Root) → cross u a (image_of a p rx ry) ≡ times (plus (times (num u.x) ry) (minus (times (num u.y) rx))) (times (full a p) (weight a))
unfolding cross weight
cross_image u a p rx ry = rw (gap_x a p rx ry, gap_y a p rx ry)
    (solve (num u.x ∷ num u.y ∷ rx ∷ ry ∷ dn a.x ∷ dn a.y ∷ times (count 2) (weight p) ∷ [])
    (add (mul (at 0) (mul (mul (at 3) (at 5)) (mul (mul (mul (at 5) (at 4)) (at 6)) (at 4)))) (opp (mul (at 1) (mul (mul (at 2) (at 4)) (mul (mul (mul (at 4) (at 5)) (at 6)) (at 5))))))
    (mul (add (mul (at 0) (at 3)) (opp (mul (at 1) (at 2)))) (mul (mul (mul (at 4) (at 5)) (at 6)) (mul (at 4) (at 5)))) refl)

weight_image : (a p : ExactPoint) (rx ry : Root) → weight (image_of a p rx ry) ≡ times (full a p) (full a p)
unfolding weight
weight_image a p rx ry = (let q = image_of a p rx ry in ap (λ d. times d (dn q.y)) (below_is _ a p) ∙ ap (times (full a p)) (below_is _ a p))

-- the numerators of the turned way
abbrev pub turned_x : Root → Root → Root → Root → Root
turned_x c t X Y = plus (times t Y) (minus (times (minus c) X))

abbrev pub turned_y : Root → Root → Root → Root → Root
turned_y c t X Y = plus (times (minus c) Y) (minus (times (minus t) X))

opposite_core : (vx vy c t X Y e w two : Root) → plus (times vx c) (times vy t) ≡ times two vx → plus (times vx t) (minus (times vy c)) ≡ times two vy
    → times (times (plus (times vx (turned_y c t X Y)) (minus (times vy (turned_x c t X Y)))) (times (times e (times two w)) e)) w ≡ minus (times (plus (times vx Y) (minus (times vy X))) (times (times e (times two w)) (times e (times two w))))
opposite_core vx vy c t X Y e w two along across =
    solve (vx ∷ vy ∷ c ∷ t ∷ X ∷ Y ∷ times (times (times e (times two w)) e) w ∷ times (times e (times two w)) e ∷ w ∷ [])
    (mul (mul (add (mul (at 0) (add (mul (opp (at 2)) (at 5)) (opp (mul (opp (at 3)) (at 4))))) (opp (mul (at 1) (add (mul (at 3) (at 5)) (opp (mul (opp (at 2)) (at 4))))))) (at 7)) (at 8))
    (mul (mul (add (mul (at 4) (add (mul (at 0) (at 3)) (opp (mul (at 1) (at 2))))) (opp (mul (at 5) (add (mul (at 0) (at 2)) (mul (at 1) (at 3)))))) (at 7)) (at 8)) refl
    ∙ rw (along, across)
    (solve (vx ∷ vy ∷ X ∷ Y ∷ e ∷ w ∷ two ∷ [])
    (mul (mul (add (mul (at 2) (mul (at 6) (at 1))) (opp (mul (at 3) (mul (at 6) (at 0))))) (mul (mul (at 4) (mul (at 6) (at 5))) (at 4))) (at 5))
    (opp (mul (add (mul (at 0) (at 3)) (opp (mul (at 1) (at 2)))) (mul (mul (at 4) (mul (at 6) (at 5))) (mul (at 4) (mul (at 6) (at 5)))))) refl)

upright_core : (vx vy c t X Y e w two : Root) → plus (times vx c) (times vy t) ≡ times two vx → plus (times vx t) (minus (times vy c)) ≡ times two vy
    → times (plus (times (minus vy) Y) (minus (times vx X))) (times (times e (times two w)) (times e (times two w))) ≡ times (times (plus (times (minus vy) (turned_y c t X Y)) (minus (times vx (turned_x c t X Y)))) (times (times e (times two w)) e)) w
upright_core vx vy c t X Y e w two along across = sym (
    solve (vx ∷ vy ∷ c ∷ t ∷ X ∷ Y ∷ times (times e (times two w)) e ∷ w ∷ [])
    (mul (mul (add (mul (opp (at 1)) (add (mul (opp (at 2)) (at 5)) (opp (mul (opp (at 3)) (at 4))))) (opp (mul (at 0) (add (mul (at 3) (at 5)) (opp (mul (opp (at 2)) (at 4))))))) (at 6)) (at 7))
    (mul (mul (opp (add (mul (at 4) (add (mul (at 0) (at 2)) (mul (at 1) (at 3)))) (mul (at 5) (add (mul (at 0) (at 3)) (opp (mul (at 1) (at 2))))))) (at 6)) (at 7)) refl
    ∙ rw (along, across)
    (solve (vx ∷ vy ∷ X ∷ Y ∷ e ∷ w ∷ two ∷ [])
    (mul (mul (opp (add (mul (at 2) (mul (at 6) (at 0))) (mul (at 3) (mul (at 6) (at 1))))) (mul (mul (at 4) (mul (at 6) (at 5))) (at 4))) (at 5))
    (mul (add (mul (opp (at 1)) (at 3)) (opp (mul (at 0) (at 2)))) (mul (mul (at 4) (mul (at 6) (at 5))) (mul (at 4) (mul (at 6) (at 5))))) refl))

-- a line's way to a point is as its gaps say
cross_gaps : (u a p : ExactPoint) → cross u a p ≡ plus (times (num u.x) (gy a p)) (minus (times (num u.y) (gx a p)))
unfolding cross
cross_gaps u a p = refl

made_opposite : (k : ℕ) (a p : ExactPoint) (c t : Root) → AreTurned k c t → Opposite k a p (image_of a p (turned_x c t (gx a p) (gy a p)) (turned_y c t (gx a p) (gy a p)))
made_opposite k a p c t h = record {
  is =
      ap (λ z. times z (weight p)) (cross_image (vector k) a p _ _)
      ∙ opposite_core (num (vector k).x) (num (vector k).y) c t (gx a p) (gy a p) (weight a) (weight p) (count 2) h.along h.across
      ∙ ap minus (ap (λ z. times z (times (full a p) (full a p))) (sym (cross_gaps (vector k) a p)) ∙ ap (times (cross (vector k) a p)) (sym (weight_image a p _ _)));
}

made_upright : (k : ℕ) (a p : ExactPoint) (c t : Root) → k < 16 → AreTurned k c t → On (vector (aside k)) p (image_of a p (turned_x c t (gx a p) (gy a p)) (turned_y c t (gx a p) (gy a p)))
made_upright k a p c t h r =
    let u = aside_vector k h in
    gap_same (vector (aside k)) a p (image_of a p (turned_x c t (gx a p) (gy a p)) (turned_y c t (gx a p) (gy a p))) (
    ap (times (cross (vector (aside k)) a p)) (weight_image a p _ _)
    ∙ ap (λ z. times z (times (full a p) (full a p))) (cross_gaps (vector (aside k)) a p ∙ rw (u.0, u.1) refl)
    ∙ upright_core (num (vector k).x) (num (vector k).y) c t (gx a p) (gy a p) (weight a) (weight p) (count 2) r.along r.across
    ∙ ap (λ z. times z (weight p)) (sym (cross_image (vector (aside k)) a p _ _ ∙ rw (u.0, u.1) refl)))

pub on_gap : (u a q r : ExactPoint) → On u q r → times (cross u a r) (weight q) ≡ times (cross u a q) (weight r)
on_gap u a q r o = chain u a q r ∙ ap (plus (times (cross u a q) (weight r))) (ap (λ z. times z (weight a)) o.on ∙ times_comm (count 0) (weight a) ∙ times_zero (weight a)) ∙ plus_zero _

opposite_moved : (k : ℕ) (a p q r : ExactPoint) → SamePoint q r → Opposite k a p q → Opposite k a p r
opposite_moved k a p q r s o = record {
  is = cancel_times (times (cross (vector k) a r) (weight p)) (minus (times (cross (vector k) a p) (weight r))) (weight q) (weight_above q) (
      solve (cross (vector k) a r ∷ weight p ∷ weight q ∷ []) (mul (mul (at 0) (at 1)) (at 2)) (mul (mul (at 0) (at 2)) (at 1)) refl
      ∙ ap (λ z. times z (weight p)) (on_gap (vector k) a q r (on_same (vector k) q r s))
      ∙ solve (cross (vector k) a q ∷ weight p ∷ weight r ∷ []) (mul (mul (at 0) (at 2)) (at 1)) (mul (mul (at 0) (at 1)) (at 2)) refl
      ∙ ap (λ z. times z (weight r)) o.is
      ∙ solve (cross (vector k) a p ∷ weight q ∷ weight r ∷ []) (mul (opp (mul (at 0) (at 1))) (at 2)) (mul (opp (mul (at 0) (at 2))) (at 1)) refl);
}

-- the point that the code makes is the image
pub image_made : (k : ℕ) (a p q : ExactPoint) (c t : Root) → k < 16 → AreTurned k c t → SamePoint (image_of a p (turned_x c t (gx a p) (gy a p)) (turned_y c t (gx a p) (gy a p))) q → IsImage a k p q
image_made k a p q c t h r s = image_from k a p q h
    (opposite_moved k a p (image_of a p (turned_x c t (gx a p) (gy a p)) (turned_y c t (gx a p) (gy a p))) q s (made_opposite k a p c t r))
    (on_trans (vector (aside k)) p (image_of a p (turned_x c t (gx a p) (gy a p)) (turned_y c t (gx a p) (gy a p))) q (made_upright k a p c t h r) (on_same (vector (aside k)) _ q s))

-- Twice the cosine and sine of twice each direction's angle, by one test of all directions.
abbrev turned_test : ℕ → Root → Root → Bool
turned_test k c t = cond (eqb (size (plus (plus (times (num (vector k).x) c) (times (num (vector k).y) t)) (minus (times (count 2) (num (vector k).x))))) 0)
    (eqb (size (plus (plus (times (num (vector k).x) t) (minus (times (num (vector k).y) c))) (minus (times (count 2) (num (vector k).y))))) 0) false

abbrev diagonal : Root → Root
diagonal x = record { a = pos 0; b = x.a }

double_test : ℕ → Bool
double_test k = cond (eqb (k % 2) 0)
    (turned_test k (times (count 2) (num (vector ((k + k) % 16)).x)) (times (count 2) (num (vector ((k + k) % 16)).y)))
    (turned_test k (diagonal (num (vector ((k + k) % 16)).x)) (diagonal (num (vector ((k + k) % 16)).y)))

double_tested : all_below 16 double_test ≡ true
unfolding double_test num minus plus times count
double_tested = refl

turned_from : (k : ℕ) (c t : Root) → turned_test k c t ≡ true → AreTurned k c t
turned_from k c t e =
    let z = tested _ _ e in
    record { along = difference_none _ _ (no_size _ z.0); across = difference_none _ _ (no_size _ z.1) }

when_even : (m : ℕ) (x y : Bool) → m ≡ 0 → cond (eqb m 0) x y ≡ true → x ≡ true
when_even m x y e t = grind (arith, nat_tests)

when_odd : (m : ℕ) (x y : Bool) → (m ≡ 0 → ⊥) → cond (eqb m 0) x y ≡ true → y ≡ true
when_odd m x y e t = grind (arith, nat_tests)

double_root : (x : Pair) (w : ExactNumber) → pair_number x ≡ w → root (pair_add x x) ≡ times (count 2) (num w)
unfolding times count
double_root x w e = both _ _ (omega (arith, ints)) (omega (arith, ints)) ∙ ap (times (count 2)) (number_root x w e)

pub turned_even : (k m : ℕ) (x y c t : Pair) → k < 16 → k % 2 ≡ 0 → m ≡ (k + k) % 16 → pair_number x ≡ (vector m).x → pair_number y ≡ (vector m).y → c ≡ pair_add x x → t ≡ pair_add y y → AreTurned k (root c) (root t)
unfolding double_test
turned_even k m x y c t h e f g i j l =
    let r : AreTurned k (times (count 2) (num (vector ((k + k) % 16)).x)) (times (count 2) (num (vector ((k + k) % 16)).y)) = turned_from k _ _ (when_even (k % 2) _ _ e (all_below_at 16 double_test double_tested k h)) in
    subst (λ (u : Root). AreTurned k u (root t)) (sym (ap root j ∙ double_root x (vector m).x g ∙ ap (λ n. times (count 2) (num (vector n).x)) f))
    (subst (λ (u : Root). AreTurned k (times (count 2) (num (vector ((k + k) % 16)).x)) u) (sym (ap root l ∙ double_root y (vector m).y i ∙ ap (λ n. times (count 2) (num (vector n).y)) f)) r)

diagonal_root : (x c : Pair) (w : ExactNumber) (z : ℤ) → pair_number x ≡ w → z ≡ x.a → unsigned_abs x.a ≤ 1 → c ≡ record { a = pos 0; b = cast_signed w128 (cast_unsigned w128 z) } → root c ≡ diagonal (num w)
diagonal_root x c w z e f h g = ap root g ∙ ap (λ (b : ℤ). let r : Root = record { a = pos 0; b = b } in r) (passed_as z x.a f (omega arith) ∙ ap (λ (r : Root). r.a) (number_root x w e))

pub turned_odd : (k m : ℕ) (x y c t : Pair) (z w : ℤ) → k < 16 → (k % 2 ≡ 0 → ⊥) → m ≡ (k + k) % 16 → pair_number x ≡ (vector m).x → pair_number y ≡ (vector m).y → z ≡ x.a → w ≡ y.a → unsigned_abs x.a ≤ 1 → unsigned_abs y.a ≤ 1
    → c ≡ record { a = pos 0; b = cast_signed w128 (cast_unsigned w128 z) } → t ≡ record { a = pos 0; b = cast_signed w128 (cast_unsigned w128 w) } → AreTurned k (root c) (root t)
unfolding double_test
turned_odd k m x y c t z w h e f g i zx wy bx by j l =
    let r : AreTurned k (diagonal (num (vector ((k + k) % 16)).x)) (diagonal (num (vector ((k + k) % 16)).y)) = turned_from k _ _ (when_odd (k % 2) _ _ e (all_below_at 16 double_test double_tested k h)) in
    subst (λ (u : Root). AreTurned k u (root t)) (sym (diagonal_root x c (vector m).x z g zx bx j ∙ ap (λ n. diagonal (num (vector n).x)) f))
    (subst (λ (u : Root). AreTurned k (diagonal (num (vector ((k + k) % 16)).x)) u) (sym (diagonal_root y t (vector m).y w i wy by l ∙ ap (λ n. diagonal (num (vector n).y)) f)) r)

-- what the code's values are
pub sum_fits : (u v : Root) → size u ≤ 2 ^ 110 → size v ≤ 2 ^ 115 → (unsigned_abs (u.a +ℤ v.a) ≤ 2 ^ 120) × (unsigned_abs (u.b +ℤ v.b) ≤ 2 ^ 120)
sum_fits u v h k = (omega (arith, sum_size u.a v.a), omega (arith, sum_size u.b v.b))

pub sum_root : (s b top : Pair) (r : Root) → top ≡ pair_add s b → root s ≡ r → root top ≡ plus r (root b)
unfolding plus
sum_root s b top r e f = ap root e ∙ ap (λ (z : Root). plus z (root b)) f

pub given_none : (o : Option ExactNumber) (a b : ℤ) (d m : ℕ) (r : Root) → a ≡ r.a → b ≡ r.b → d ≡ m → IfNone o (IsRepresentable (record { a = a; b = b; d = d }) → ⊥) → IfNone o (IsRepresentable (over r m) → ⊥)
given_none None a b d m r e f g h = rw (← e, ← f, ← g) h
given_none (Some n) a b d m r e f g h = tt

pub neg_root : (x y : Pair) → y ≡ pair_neg x → root y ≡ minus (root x)
unfolding minus
neg_root x y e = ap root e

pub by_x : (s c d X Y : Pair) (by gX gY : Root) → by ≡ plus (times (root s) (root Y)) (minus (times (root d) (root X))) → d ≡ pair_neg c → root X ≡ gX → root Y ≡ gY → by ≡ turned_x (root c) (root s) gX gY
by_x s c d X Y by gX gY e f g h = e ∙ rw (neg_root c d f, g, h) refl

pub by_y : (s c d r X Y : Pair) (by gX gY : Root) → by ≡ plus (times (root d) (root Y)) (minus (times (root r) (root X))) → d ≡ pair_neg c → r ≡ pair_neg s → root X ≡ gX → root Y ≡ gY → by ≡ turned_y (root c) (root s) gX gY
by_y s c d r X Y by gX gY e f i g h = e ∙ rw (neg_root c d f, neg_root s r i, g, h) refl

pub made_part : (from by F B : Root) (o m w wa : ℕ) → from ≡ F → by ≡ B → o ≡ 2 * w → m ≡ wa * (2 * w) → over (plus (times from (count o)) by) m ≡ over (plus (times F (count (2 * w))) B) (wa * (2 * w))
made_part from by F B o m w wa e f g h = rw (e, f, g, h) refl

-- a point out of range is no image that can be held
pub none_imaged : (k : ℕ) (a p r : ExactPoint) → k < 16 → IsImage a k p r → (IsRepresentable r.x → ⊥) ⊎ (IsRepresentable r.y → ⊥) → (q : ExactPoint) → IsImage a k p q → ¬ IsPointRepresentable q
none_imaged k a p r h i n q j x = (let s = image_only k a p q r h j i in elim n [
  | inl f ↦ f (held q.x r.x s.x x.0)
  | inr f ↦ f (held q.y r.y s.y x.1)
])

pub image_self : (k : ℕ) (a p : ExactPoint) (c t : Root) → k < 16 → AreTurned k c t → IsImage a k p (image_of a p (turned_x c t (gx a p) (gy a p)) (turned_y c t (gx a p) (gy a p)))
image_self k a p c t h r = (let q = image_of a p (turned_x c t (gx a p) (gy a p)) (turned_y c t (gx a p) (gy a p)) in image_made k a p q c t h r (record { x = same_itself q.x; y = same_itself q.y }))

even_test : ℕ → Bool
even_test k = cond (eqb (k % 2) 0) (cond (ltb (size (times (count 2) (num (vector ((k + k) % 16)).x))) 3) (ltb (size (times (count 2) (num (vector ((k + k) % 16)).y))) 3) false) true

even_tested : all_below 16 even_test ≡ true
unfolding even_test num times count
even_tested = refl

when_small : (p q : ℕ) → cond (ltb p 3) (ltb q 3) false ≡ true → (p ≤ 2) × (q ≤ 2)
when_small p q e = (grind (arith, nat_tests), grind (arith, nat_tests))

pub even_small : (k m : ℕ) (x y c t : Pair) → k < 16 → k % 2 ≡ 0 → m ≡ (k + k) % 16 → pair_number x ≡ (vector m).x → pair_number y ≡ (vector m).y → c ≡ pair_add x x → t ≡ pair_add y y → (size (root c) ≤ 2) × (size (root t) ≤ 2)
unfolding even_test
even_small k m x y c t h e f g i j l =
    let s = when_small _ _ (when_even (k % 2) _ _ e (all_below_at 16 even_test even_tested k h)) in (
      subst (λ (u : Root). size u ≤ 2) (sym (ap root j ∙ double_root x (vector m).x g ∙ ap (λ n. times (count 2) (num (vector n).x)) f)) s.0,
      subst (λ (u : Root). size u ≤ 2) (sym (ap root l ∙ double_root y (vector m).y i ∙ ap (λ n. times (count 2) (num (vector n).y)) f)) s.1,
    )

pub neg_small : (x y : Pair) → y ≡ pair_neg x → size (root x) ≤ 2 → size (root y) ≤ 2
neg_small x y e h = subst (λ (u : Root). size u ≤ 2) (sym (neg_root x y e)) (omega (arith, size_minus (root x), h))

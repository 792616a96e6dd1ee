-- The line that halves an angle: its points are equally far from both arms.
use Rattle.std.specs.Prelude.{◌↔◌, pos}
use Rattle.std.proofs.Common.{◌≡◌, ◌≢◌, ℕ, ◌+◌, ◌-◌, ◌/◌, ◌%◌, ◌<◌, Bool, true, false, cond, eqb, ltb, [], ◌∷◌, refl, sym, ap, subst, ◌∙◌, inl, arith}
use Rattle.std.proofs.lemmas.Bool.Decides.{nat_tests}
use Rattle.std.proofs.lemmas.Int.{ints}
use Rattle.exact.specs.Plane.{ExactPoint, vector}
use Rattle.exact.proofs.Turns.{all_below, all_below_at}
use Rattle.geometry.specs.Root.{Root, plus, times, minus, count, size, Above}
use Rattle.geometry.specs.Gap.{num, gx, gy, cross}
use Rattle.geometry.proofs.Solve.{at, add, mul, opp, solve, times_zero}
use Rattle.geometry.proofs.Domain.{above_times, above_out, above_count}
use Rattle.geometry.proofs.Gap.{difference_none, none_difference, above_right, cancel_times}
use Rattle.geometry.proofs.Lines.{On, apart_zero, side_moved, weight, weight_above}
use Rattle.geometry.proofs.Sizes.{no_size}
use Rattle.geometry.proofs.Leads.{opposite_vector}

abbrev pub root_two : Root
root_two = record { a = pos 0; b = pos 1 }

-- √2 along the axes, else 1: so stretched, vectors an even angle apart are equally long
abbrev pub share : ℕ → Root
share k = cond (eqb (k % 4) 0) root_two (count 1)

pub share_above : (k : ℕ) → Above (share k)
share_above k = either (eqb (k % 4) 0)
  where
    either : (b : Bool) → Above (cond b root_two (count 1))
    either true = inl (omega (arith, ints), omega (arith, ints), omega (arith, ints))
    either false = above_count 1 (omega arith)

-- the direction, below 8, of the line halfway between two directions
abbrev pub axis : ℕ → ℕ → ℕ
axis f s = ((f + s) / 2) % 8

abbrev sum_x : ℕ → ℕ → Root
sum_x f s = plus (times (share f) (num (vector f).x)) (times (share s) (num (vector s).x))

abbrev sum_y : ℕ → ℕ → Root
sum_y f s = plus (times (share f) (num (vector f).y)) (times (share s) (num (vector s).y))

-- how often the sum of both stretched vectors holds that of the axis
abbrev factor : ℕ → ℕ → Root
factor f s = cond (ltb (axis f s) 3) (sum_x f s) (cond (ltb (axis f s) 7) (sum_y f s) (minus (sum_x f s)))

abbrev rest_x : ℕ → ℕ → Root
rest_x f s = plus (sum_x f s) (minus (times (factor f s) (num (vector (axis f s)).x)))

abbrev rest_y : ℕ → ℕ → Root
rest_y f s = plus (sum_y f s) (minus (times (factor f s) (num (vector (axis f s)).y)))

abbrev half_test : ℕ → ℕ → Bool
half_test f s = cond (eqb ((f + s) % 2) 1) true (cond (eqb ((f + 16 - s) % 16) 8) true (cond (eqb (size (rest_x f s)) 0) (cond (eqb (size (rest_y f s)) 0) (ltb 0 (size (factor f s))) false) false))

half_tested : all_below 16 (λ f. all_below 16 (λ s. half_test f s)) ≡ true
unfolding num plus times minus count
half_tested = refl

told : (m n a b z : ℕ) → m ≢ 1 → n ≢ 8 → cond (eqb m 1) true (cond (eqb n 8) true (cond (eqb a 0) (cond (eqb b 0) (ltb 0 z) false) false)) ≡ true → (a ≡ 0) × (b ≡ 0) × (0 < z)
told m n a b z i j e = (grind (arith, nat_tests), grind (arith, nat_tests), grind (arith, nat_tests))

size_none : size (count 0) ≡ 0
unfolding count
size_none = refl

-- the sum of both stretched vectors is some multiple of that of the axis
record IsHalved (f s : ℕ) : Type 0 where
  x : sum_x f s ≡ times (factor f s) (num (vector (axis f s)).x)
  y : sum_y f s ≡ times (factor f s) (num (vector (axis f s)).y)
  some : factor f s ≢ count 0

halved : (f s : ℕ) → f < 16 → s < 16 → (f + s) % 2 ≢ 1 → (f + 16 - s) % 16 ≢ 8 → IsHalved f s
halved f s p q even bent =
    let t : half_test f s ≡ true = all_below_at 16 (λ k. half_test f k) (all_below_at 16 (λ l. all_below 16 (λ k. half_test l k)) half_tested f p) s q in
    let h = told ((f + s) % 2) ((f + 16 - s) % 16) (size (rest_x f s)) (size (rest_y f s)) (size (factor f s)) even bent t in
    record {
      x = difference_none _ _ (no_size (rest_x f s) h.0);
      y = difference_none _ _ (no_size (rest_y f s) h.1);
      some = λ e. (let z : size (factor f s) ≡ 0 = ap size e ∙ size_none in omega (arith, h.2, z));
    }

-- how far a point is to the left of the line through o in direction k, in units that directions an even angle apart share
abbrev pub far : ℕ → ExactPoint → ExactPoint → Root
far k o c = times (share k) (cross (vector k) o c)

sum_cross : (f s : ℕ) (o c : ExactPoint) → IsHalved f s → plus (far f o c) (far s o c) ≡ times (factor f s) (cross (vector (axis f s)) o c)
unfolding cross
sum_cross f s o c h =
    solve (share f ∷ num (vector f).x ∷ num (vector f).y ∷ share s ∷ num (vector s).x ∷ num (vector s).y ∷ gx o c ∷ gy o c ∷ [])
    (add (mul (at 0) (add (mul (at 1) (at 7)) (opp (mul (at 2) (at 6))))) (mul (at 3) (add (mul (at 4) (at 7)) (opp (mul (at 5) (at 6))))))
    (add (mul (add (mul (at 0) (at 1)) (mul (at 3) (at 4))) (at 7)) (opp (mul (add (mul (at 0) (at 2)) (mul (at 3) (at 5))) (at 6)))) refl
    ∙ ap (λ z. plus (times z (gy o c)) (minus (times (sum_y f s) (gx o c)))) h.x
    ∙ ap (λ z. plus (times (times (factor f s) (num (vector (axis f s)).x)) (gy o c)) (minus (times z (gx o c)))) h.y
    ∙ solve (factor f s ∷ num (vector (axis f s)).x ∷ num (vector (axis f s)).y ∷ gx o c ∷ gy o c ∷ [])
    (add (mul (mul (at 0) (at 1)) (at 4)) (opp (mul (mul (at 0) (at 2)) (at 3))))
    (mul (at 0) (add (mul (at 1) (at 4)) (opp (mul (at 2) (at 3))))) refl

-- a point of the axis is as far on the left of the one arm as on the right of the other, and no other point is
axis_far : (f s : ℕ) (o c : ExactPoint) → f < 16 → s < 16 → (f + s) % 2 ≢ 1 → (f + 16 - s) % 16 ≢ 8 → On (vector (axis f s)) o c ↔ (plus (far f o c) (far s o c) ≡ count 0)
axis_far f s o c p q even bent =
    let h = halved f s p q even bent in (
      λ on. sum_cross f s o c h ∙ ap (times (factor f s)) on.on ∙ times_zero (factor f s),
      λ e. record { on = apart_zero (factor f s) _ h.some (sym (sum_cross f s o c h) ∙ e) },
    )

-- the opposite direction
abbrev pub back : ℕ → ℕ
back k = (k + 8) % 16

-- between two directions and between their opposites is one axis
pub axis_back : (i j : ℕ) → j < 16 → axis j (back i) ≡ axis (back i) (back (back j))
axis_back i j small = omega (arith, small)

far_back : (k : ℕ) (o c : ExactPoint) → k < 16 → far (back k) o c ≡ minus (far k o c)
unfolding cross
far_back k o c h =
    let v = opposite_vector k h in
    let same : back k % 4 ≡ k % 4 = omega (arith, h) in
    let one : share (back k) ≡ share k = ap (λ n. cond (eqb n 0) root_two (count 1)) same in
    rw (one, v.0, v.1) (solve (share k ∷ num (vector k).x ∷ num (vector k).y ∷ gx o c ∷ gy o c ∷ [])
    (mul (at 0) (add (mul (opp (at 1)) (at 4)) (opp (mul (opp (at 2)) (at 3)))))
    (opp (mul (at 0) (add (mul (at 1) (at 4)) (opp (mul (at 2) (at 3)))))) refl)

-- sides in directions i and m meet in o: a point on the axis of the one and the opposite of the other is equally far from both
pub axis_equal : (i m : ℕ) (o c : ExactPoint) → i < 16 → m < 16 → (i + m) % 2 ≡ 0 → i ≢ m → On (vector (axis i (back m))) o c ↔ (far i o c ≡ far m o c)
axis_equal i m o c p q even apart =
    let h = axis_far i (back m) o c p (omega arith) (λ e. omega (arith, e, even, q)) (λ e. apart (omega (arith, e, p, q))) in (
      λ on. difference_none _ _ (ap (plus (far i o c)) (sym (far_back m o c q)) ∙ h.0 on),
      λ e. h.1 (ap (plus (far i o c)) (far_back m o c q) ∙ none_difference _ _ e),
    )

-- how far a point is from a line is measured at any point of the line
pub far_moved : (k : ℕ) (o l c : ExactPoint) → On (vector k) o l → times (far k o c) (weight l) ≡ times (far k l c) (weight o)
far_moved k o l c on =
    solve (share k ∷ cross (vector k) o c ∷ weight l ∷ []) (mul (mul (at 0) (at 1)) (at 2)) (mul (at 0) (mul (at 1) (at 2))) refl
    ∙ ap (times (share k)) (side_moved (vector k) o l c on)
    ∙ solve (share k ∷ cross (vector k) l c ∷ weight o ∷ []) (mul (at 0) (mul (at 1) (at 2))) (mul (mul (at 0) (at 1)) (at 2)) refl

third_core : (a a' b b' e e' wp wq wr : Root) → Above wp → Above wq → times a wq ≡ times a' wp → times b wr ≡ times b' wq → times e wp ≡ times e' wr → a ≡ e' → b ≡ a' → e ≡ b'
third_core a a' b b' e e' wp wq wr hp hq f g h m n = cancel_times e b' (times wp wq) (above_times wp wq hp hq) (
    solve (e ∷ wp ∷ wq ∷ []) (mul (at 0) (mul (at 1) (at 2))) (mul (mul (at 0) (at 1)) (at 2)) refl
    ∙ ap (λ z. times z wq) (h ∙ ap (λ z. times z wr) (sym m))
    ∙ solve (a ∷ wr ∷ wq ∷ []) (mul (mul (at 0) (at 1)) (at 2)) (mul (mul (at 0) (at 2)) (at 1)) refl
    ∙ ap (λ z. times z wr) (f ∙ ap (λ z. times z wp) (sym n))
    ∙ solve (b ∷ wp ∷ wr ∷ []) (mul (mul (at 0) (at 1)) (at 2)) (mul (mul (at 0) (at 2)) (at 1)) refl
    ∙ ap (λ z. times z wp) g
    ∙ solve (b' ∷ wq ∷ wp ∷ []) (mul (mul (at 0) (at 1)) (at 2)) (mul (at 0) (mul (at 2) (at 1))) refl)

-- equally far from two pairs of sides: from the third pair too
pub third_equal : (p q r c : ExactPoint) (i j m : ℕ) → On (vector i) p q → On (vector j) q r → On (vector m) r p → far i p c ≡ far m p c → far j q c ≡ far i q c → far m r c ≡ far j r c
third_equal p q r c i j m pq qr rp at_p at_q = third_core _ _ _ _ _ _ (weight p) (weight q) (weight r) (weight_above p) (weight_above q) (far_moved i p q c pq) (far_moved j q r c qr) (far_moved m r p c rp) at_p at_q

-- on the left of a line
pub far_above : (k : ℕ) (o c : ExactPoint) → Above (cross (vector k) o c) ↔ Above (far k o c)
far_above k o c = (λ h. above_times _ _ (share_above k) h, λ h. above_out _ _ (share_above k) h)

pub moved_above : (k : ℕ) (o l c : ExactPoint) → On (vector k) o l → Above (far k o c) → Above (far k l c)
moved_above k o l c on h = above_right _ (weight o) (weight_above o) (subst Above (far_moved k o l c on) (above_times _ _ h (weight_above l)))

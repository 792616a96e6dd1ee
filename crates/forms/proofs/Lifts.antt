-- Forms by lifted coordinates.
use Rattle.std.proofs.Common.{◌≡◌, ℕ, ◌<◌, ◌*◌, [], ◌∷◌, arith, refl, sym, ap, ◌∙◌, mul-pos}
use Rattle.std.proofs.lemmas.Int.{ints}
use Rattle.exact.specs.Number.{ExactNumber, Same, den, mul, whole}
use Rattle.exact.specs.Plane.{ExactPoint, vector}
use Rattle.qroot2.specs.Wide.{Pair, pair_add, pair_sub, pair_neg}
use Rattle.geometry.specs.Root.{Root, plus, times, minus, count}
use Rattle.geometry.specs.Gap.{num, dn}
use Rattle.geometry.proofs.Gap.{num_same, same_num, num_mul, dn_mul, count_product}
use Rattle.geometry.proofs.RootRing.{both, times_assoc, times_one}
use Rattle.geometry.proofs.Solve.{at, add, mul as mul_term, opp, solve}
use Rattle.plane.specs.Ways.{root, tilted, offset_of}
use Rattle.plane.proofs.callers.Supports.{turn_num, turn_dn}
use Rattle.forms.specs.Forms.{form_of, IsLifted}

left_terms : (vx vy x y dx dy : Root) → times (plus (times vx y) (minus (times vy x))) (times dx dy) ≡ plus (times vx (times (times y dy) dx)) (minus (times vy (times (times x dx) dy)))
left_terms vx vy x y dx dy = solve (vx ∷ vy ∷ x ∷ y ∷ dx ∷ dy ∷ [])
    (mul_term (add (mul_term (at 0) (at 3)) (opp (mul_term (at 1) (at 2)))) (mul_term (at 4) (at 5)))
    (add (mul_term (at 0) (mul_term (mul_term (at 3) (at 5)) (at 4))) (opp (mul_term (at 1) (mul_term (mul_term (at 2) (at 4)) (at 5))))) refl

right_terms : (vx vy nx ny dx dy w : Root) → plus (times vx (times (times ny w) dx)) (minus (times vy (times (times nx w) dy))) ≡ times (plus (times vx (times ny dx)) (minus (times vy (times nx dy)))) w
right_terms vx vy nx ny dx dy w = solve (vx ∷ vy ∷ nx ∷ ny ∷ dx ∷ dy ∷ w ∷ [])
    (add (mul_term (at 0) (mul_term (mul_term (at 3) (at 6)) (at 4))) (opp (mul_term (at 1) (mul_term (mul_term (at 2) (at 6)) (at 5)))))
    (mul_term (add (mul_term (at 0) (mul_term (at 3) (at 4))) (opp (mul_term (at 1) (mul_term (at 2) (at 5))))) (at 6)) refl

-- the form over the weight is that of the point
pub form_made : (k : ℕ) (p : ExactPoint) (x y f : Pair) (w : ℕ) → IsLifted p x y w → root f ≡ offset_of k (root x) (root y) → (let r : ExactNumber = record { a = f.a; b = f.b; d = w } in Same r (form_of k p))
unfolding num dn
form_made k p x y f w h e =
    let r : ExactNumber = record { a = f.a; b = f.b; d = w } in
    let below : den r ≡ w = omega (arith, h.some) in
    let across : times (offset_of k (root x) (root y)) (times (dn p.x) (dn p.y)) ≡ times (offset_of k (times (num p.x) (dn p.y)) (times (num p.y) (dn p.x))) (count w) =
    left_terms (num (vector k).x) (num (vector k).y) (root x) (root y) (dn p.x) (dn p.y)
    ∙ rw (h.x, h.y) (right_terms (num (vector k).x) (num (vector k).y) (num p.x) (num p.y) (dn p.x) (dn p.y) (count w)) in
    num_same r (form_of k p)
    (ap (λ (t : Root). times t (dn (form_of k p))) e ∙ ap (λ (t : Root). times (offset_of k (root x) (root y)) t) (turn_dn k p) ∙ across
    ∙ ap (λ (t : Root). times t (count w)) (sym (turn_num k p)) ∙ ap (λ (t : ℕ). times (num (form_of k p)) (count t)) (sym below))

scaled_terms : (n e x dy : Root) → times (times n x) (times e dy) ≡ times (times n e) (times x dy)
scaled_terms n e x dy = solve (n ∷ e ∷ x ∷ dy ∷ []) (mul_term (mul_term (at 0) (at 2)) (mul_term (at 1) (at 3))) (mul_term (mul_term (at 0) (at 1)) (mul_term (at 2) (at 3))) refl

-- multiples of one number
pub same_scaled : (n : ℕ) (x y : ExactNumber) → Same x y → Same (mul (whole n) x) (mul (whole n) y)
same_scaled n x y s = num_same (mul (whole n) x) (mul (whole n) y)
    (rw (num_mul (whole n) x, num_mul (whole n) y, dn_mul (whole n) x, dn_mul (whole n) y)
    (scaled_terms (num (whole n)) (dn (whole n)) (num x) (dn y) ∙ ap (times (times (num (whole n)) (dn (whole n)))) (same_num x y s) ∙ sym (scaled_terms (num (whole n)) (dn (whole n)) (num y) (dn x))))

-- the forms by additions, of each direction
pub form_0 : (x y f : Pair) → f ≡ y → root f ≡ offset_of 0 (root x) (root y)
unfolding plus times minus count num
form_0 x y f e = rw e (both _ _ (omega (arith, ints)) (omega (arith, ints)))

pub form_1 : (x y t f : Pair) → t ≡ tilted x → f ≡ pair_sub y t → root f ≡ offset_of 1 (root x) (root y)
unfolding plus times minus count num
form_1 x y t f g e = rw (e, g) (both _ _ (omega (arith, ints)) (omega (arith, ints)))

pub form_2 : (x y f : Pair) → f ≡ pair_sub y x → root f ≡ offset_of 2 (root x) (root y)
unfolding plus times minus count num
form_2 x y f e = rw e (both _ _ (omega (arith, ints)) (omega (arith, ints)))

pub form_3 : (x y t f : Pair) → t ≡ tilted y → f ≡ pair_sub t x → root f ≡ offset_of 3 (root x) (root y)
unfolding plus times minus count num
form_3 x y t f g e = rw (e, g) (both _ _ (omega (arith, ints)) (omega (arith, ints)))

pub form_4 : (x y f : Pair) → f ≡ pair_neg x → root f ≡ offset_of 4 (root x) (root y)
unfolding plus times minus count num
form_4 x y f e = rw e (both _ _ (omega (arith, ints)) (omega (arith, ints)))

pub form_13 : (x y t f : Pair) → t ≡ tilted y → f ≡ pair_add t x → root f ≡ offset_of 13 (root x) (root y)
unfolding plus times minus count num
form_13 x y t f g e = rw (e, g) (both _ _ (omega (arith, ints)) (omega (arith, ints)))

pub form_14 : (x y f : Pair) → f ≡ pair_add y x → root f ≡ offset_of 14 (root x) (root y)
unfolding plus times minus count num
form_14 x y f e = rw e (both _ _ (omega (arith, ints)) (omega (arith, ints)))

pub form_15 : (x y t f : Pair) → t ≡ tilted x → f ≡ pair_add y t → root f ≡ offset_of 15 (root x) (root y)
unfolding plus times minus count num
form_15 x y t f g e = rw (e, g) (both _ _ (omega (arith, ints)) (omega (arith, ints)))

-- the lifted coordinates of a point: over its own denominators, or over their product
own_denominator : (x : ExactNumber) (w : ℕ) → w ≡ x.d → 0 < x.d → dn x ≡ count w
unfolding dn
own_denominator x w e h = ap count (let f : den x ≡ w = omega (arith, e, h) in f)

pub lifted_equal : (p : ExactPoint) (u v : Pair) (w e : ℕ) → root u ≡ times (num p.x) (count 1) → root v ≡ times (num p.y) (count 1) → w ≡ p.x.d → e ≡ p.y.d → w ≡ e → 0 < p.x.d → 0 < p.y.d → IsLifted p u v w
lifted_equal p u v w e f g h k q a b = record {
  some = omega (arith, h, a);
  x = rw (f, times_one (num p.x), own_denominator p.x w h a) refl;
  y = rw (g, times_one (num p.y), own_denominator p.y w (q ∙ k) b) refl;
}

first_terms : (n a b : Root) → times (times n b) a ≡ times n (times a b)
first_terms n a b = solve (n ∷ a ∷ b ∷ []) (mul_term (mul_term (at 0) (at 2)) (at 1)) (mul_term (at 0) (mul_term (at 1) (at 2))) refl

pub lifted_product : (p : ExactPoint) (u v : Pair) (w e : ℕ) → root u ≡ times (num p.x) (count e) → root v ≡ times (num p.y) (count w) → w ≡ p.x.d → e ≡ p.y.d → 0 < p.x.d → 0 < p.y.d → IsLifted p u v (w * e)
lifted_product p u v w e f g h k a b = record {
  some = mul-pos (omega (arith, h, a)) (omega (arith, k, b));
  x = rw (f, own_denominator p.x w h a, count_product w e) (first_terms (num p.x) (count w) (count e));
  y = rw (g, own_denominator p.y e k b, count_product w e) (times_assoc (num p.y) (count w) (count e));
}

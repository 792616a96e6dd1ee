-- Points and lines by numerators: when two points are one, in order, on one line.
use Rattle.std.proofs.Common.{◌≡◌, ℕ, ◌*◌, [], ◌∷◌, arith, refl, sym, ap, subst, ◌∙◌, inl, inr}
use Rattle.std.specs.Prelude.{ℤ, pos, neg_ℤ, ◌+ℤ◌, ◌-ℤ◌, ◌*ℤ◌, ◌↔◌}
use Rattle.std.proofs.lemmas.Int.{ints}
use Rattle.exact.specs.Number.{ExactNumber, Same, Less, Positive, den, sub, mul as mul_exact}
use Rattle.exact.specs.Plane.{ExactPoint, SamePoint, Before, away, turn, IsZero}
use Rattle.exact.proofs.Ring.{is_add, is_neg, is_lit, is_atom, is_mul, is_sub, is_eq}
use Rattle.geometry.specs.Root.{Root, plus, times, minus, count, Above}
use Rattle.geometry.specs.Gap.{num, dn, gx, gy, cross, Ahead, IsWhole}
use Rattle.geometry.proofs.RootRing.{both, plus_minus, times_comm, times_one, cancel_plus}
use Rattle.geometry.proofs.Solve.{at, none, add, mul, opp, solve, times_zero}
use Rattle.geometry.proofs.Domain.{above_times, above_count, above_out, zero_out}
use Rattle.exact.proofs.Kept.{tall, den_above}

pub scale : (x : Root) (n : ℕ) → (let y : Root = record { a = x.a *ℤ pos n; b = x.b *ℤ pos n } in times x (count n) ≡ y)
unfolding times count
scale x n =
    let A = is_atom x.a in let B = is_atom x.b in let N = is_lit n in let O = is_lit 0 in let two = is_lit 2 in
    both _ _
    (is_eq (is_add (is_mul A N) (is_mul two (is_mul B O))) (is_mul A N) (omega arith))
    (is_eq (is_add (is_mul A O) (is_mul B N)) (is_mul B N) (omega arith))

pub count_product : (m n : ℕ) → count (m * n) ≡ times (count m) (count n)
unfolding times count
count_product m n = both _ _ (omega (arith, ints)) (omega (arith, ints))

pub dn_above : (x : ExactNumber) → Above (dn x)
unfolding dn
dn_above x = above_count (den x) (den_above x)

pub num_mul : (x y : ExactNumber) → num (mul_exact x y) ≡ times (num x) (num y)
unfolding num times
num_mul x y = refl

pub dn_mul : (x y : ExactNumber) → dn (mul_exact x y) ≡ times (dn x) (dn y)
unfolding dn
dn_mul x y = ap count (tall (den x) (den y) (den_above x) (den_above y)) ∙ count_product (den x) (den y)

pub dn_sub : (x y : ExactNumber) → dn (sub x y) ≡ times (dn x) (dn y)
unfolding dn
dn_sub x y = ap count (tall (den x) (den y) (den_above x) (den_above y)) ∙ count_product (den x) (den y)

pub num_sub : (x y : ExactNumber) → num (sub x y) ≡ plus (times (num x) (dn y)) (minus (times (num y) (dn x)))
unfolding num dn plus minus
num_sub x y = rw (scale (num x) (den y), scale (num y) (den x)) (both _ _ (neg_out y.a (den x) (x.a *ℤ pos (den y))) (neg_out y.b (den x) (x.b *ℤ pos (den y))))
  where
    neg_out : (z : ℤ) (n : ℕ) (w : ℤ) → w +ℤ neg_ℤ z *ℤ pos n ≡ w +ℤ neg_ℤ (z *ℤ pos n)
    neg_out z n w = is_eq (is_add (is_atom w) (is_mul (is_neg (is_atom z)) (is_lit n))) (is_add (is_atom w) (is_neg (is_mul (is_atom z) (is_lit n)))) (omega arith)

pub same_num : (x y : ExactNumber) → Same x y → times (num x) (dn y) ≡ times (num y) (dn x)
unfolding num dn
same_num x y s = scale (num x) (den y) ∙ both _ _ s.a s.b ∙ sym (scale (num y) (den x))

pub num_same : (x y : ExactNumber) → times (num x) (dn y) ≡ times (num y) (dn x) → Same x y
unfolding num dn
num_same x y e =
    let f = sym (scale (num x) (den y)) ∙ e ∙ scale (num y) (den x) in
    record { a = ap (λ (r : Root). r.a) f; b = ap (λ (r : Root). r.b) f }

pub less_num : (x y : ExactNumber) → Less x y ↔ Above (num (sub y x))
unfolding num
less_num x y = (λ h. rw (turn_neg x.a (den y) (y.a *ℤ pos (den x)), turn_neg x.b (den y) (y.b *ℤ pos (den x))) h, λ h. rw (turn_neg x.a (den y) (y.a *ℤ pos (den x)), turn_neg x.b (den y) (y.b *ℤ pos (den x))) at h)
  where
    turn_neg : (z : ℤ) (n : ℕ) (w : ℤ) → w +ℤ neg_ℤ z *ℤ pos n ≡ w -ℤ z *ℤ pos n
    turn_neg z n w = is_eq (is_add (is_atom w) (is_mul (is_neg (is_atom z)) (is_lit n))) (is_sub (is_atom w) (is_mul (is_atom z) (is_lit n))) (omega arith)

pub difference_none : (x y : Root) → plus x (minus y) ≡ count 0 → x ≡ y
difference_none x y e = cancel_plus x y (minus y) (e ∙ sym (plus_minus y))

pub none_difference : (x y : Root) → x ≡ y → plus x (minus y) ≡ count 0
none_difference x y e = ap (λ t. plus t (minus y)) e ∙ plus_minus y

pub same_sub : (x y : ExactNumber) → Same x y ↔ (num (sub y x) ≡ count 0)
same_sub x y = (λ s. num_sub y x ∙ none_difference _ _ (sym (same_num x y s)), λ e. num_same x y (sym (difference_none _ _ (sym (num_sub y x) ∙ e))))

-- a factor above zero on the right
pub out_right : (x y : Root) → Above y → times x y ≡ count 0 → x ≡ count 0
out_right x y h e = zero_out y x h (times_comm y x ∙ e)

-- equal products with a number above zero
pub cancel_times : (x y z : Root) → Above z → times x z ≡ times y z → x ≡ y
cancel_times x y z h e = difference_none x y (out_right _ z h (
    solve (x ∷ y ∷ z ∷ []) (mul (add (at 0) (opp (at 1))) (at 2)) (add (mul (at 0) (at 2)) (opp (mul (at 1) (at 2)))) refl ∙ none_difference _ _ e))

pub in_right : (x y : Root) → x ≡ count 0 → times x y ≡ count 0
in_right x y e = ap (λ t. times t y) e ∙ times_comm (count 0) y ∙ times_zero y

pub above_right : (x y : Root) → Above y → Above (times x y) → Above x
above_right x y h k = above_out y x h (subst Above (times_comm x y) k)

pub same_gap : (p r : ExactPoint) → SamePoint p r ↔ ((gx p r ≡ count 0) × (gy p r ≡ count 0))
unfolding gx gy
same_gap p r = (λ s. (in_right _ _ ((same_sub p.x r.x).0 s.x), in_right _ _ ((same_sub p.y r.y).0 s.y)), λ e. record { x = (same_sub p.x r.x).1 (out_right _ _ (dn_above (sub r.y p.y)) e.0); y = (same_sub p.y r.y).1 (out_right _ _ (dn_above (sub r.x p.x)) e.1) })

pub before_gap : (p r : ExactPoint) → Before p r ↔ Ahead (gx p r) (gy p r)
unfolding gx gy
before_gap p r = (
  λ h. elim h [
    | inl l ↦ inl (above_times _ _ ((less_num p.x r.x).0 l) (dn_above (sub r.y p.y)))
    | inr k ↦ inr (in_right _ _ ((same_sub p.x r.x).0 k.0), above_times _ _ ((less_num p.y r.y).0 k.1) (dn_above (sub r.x p.x)))
  ],
  λ h. elim h [
    | inl l ↦ inl ((less_num p.x r.x).1 (above_right _ _ (dn_above (sub r.y p.y)) l))
    | inr k ↦ inr ((same_sub p.x r.x).1 (out_right _ _ (dn_above (sub r.y p.y)) k.0), (less_num p.y r.y).1 (above_right _ _ (dn_above (sub r.x p.x)) k.1))
  ],
)

pub zero_num : (x : ExactNumber) → IsZero x ↔ (num x ≡ count 0)
unfolding num count
zero_num x = (λ z. both _ _ z.0 z.1, λ e. (ap (λ (r : Root). r.a) e, ap (λ (r : Root). r.b) e))

pub dn_one : (v : ExactNumber) → v.d ≡ 1 → dn v ≡ count 1
unfolding dn
dn_one v e = ap count (let f : den v ≡ 1 = omega arith in f)

pub dn_whole : (t v : ExactNumber) → v.d ≡ 1 → dn (mul_exact t v) ≡ dn t
dn_whole t v e = dn_mul t v ∙ ap (times (dn t)) (dn_one v e) ∙ times_one (dn t)

-- W is t times v, and w any way: both turns are zero together
turns : (Wx Wy wx wy Dx Dy ex ey T t vx vy : Root) → times Wx T ≡ times (times t vx) Dx → times Wy T ≡ times (times t vy) Dy
    → times (plus (times (times Wx wy) (times Dy ex)) (minus (times (times Wy wx) (times Dx ey)))) T ≡ times (times t (times Dx Dy)) (plus (times vx (times wy ex)) (minus (times vy (times wx ey))))
turns Wx Wy wx wy Dx Dy ex ey T t vx vy e f =
    solve (Wx ∷ Wy ∷ wx ∷ wy ∷ Dx ∷ Dy ∷ ex ∷ ey ∷ T ∷ [])
    (mul (add (mul (mul (at 0) (at 3)) (mul (at 5) (at 6))) (opp (mul (mul (at 1) (at 2)) (mul (at 4) (at 7))))) (at 8))
    (add (mul (mul (at 0) (at 8)) (mul (at 3) (mul (at 5) (at 6)))) (opp (mul (mul (at 1) (at 8)) (mul (at 2) (mul (at 4) (at 7)))))) refl
    ∙ ap (λ u. plus (times u (times wy (times Dy ex))) (minus (times (times Wy T) (times wx (times Dx ey))))) e
    ∙ ap (λ u. plus (times (times (times t vx) Dx) (times wy (times Dy ex))) (minus (times u (times wx (times Dx ey))))) f
    ∙ solve (t ∷ vx ∷ vy ∷ wx ∷ wy ∷ Dx ∷ Dy ∷ ex ∷ ey ∷ [])
    (add (mul (mul (mul (at 0) (at 1)) (at 5)) (mul (at 4) (mul (at 6) (at 7)))) (opp (mul (mul (mul (at 0) (at 2)) (at 6)) (mul (at 3) (mul (at 5) (at 8))))))
    (mul (mul (at 0) (mul (at 5) (at 6))) (add (mul (at 1) (mul (at 4) (at 7))) (opp (mul (at 2) (mul (at 3) (at 8)))))) refl

pub turn_num : (U w : ExactPoint) → num (turn U w) ≡ plus (times (times (num U.x) (num w.y)) (times (dn U.y) (dn w.x))) (minus (times (times (num U.y) (num w.x)) (times (dn U.x) (dn w.y))))
turn_num U w = num_sub (mul_exact U.x w.y) (mul_exact U.y w.x)
    ∙ rw (num_mul U.x w.y, num_mul U.y w.x, dn_mul U.x w.y, dn_mul U.y w.x) refl

-- c is a times the whole number b
pub whole_times : (a b : ExactNumber) → b.d ≡ 1 → (c : ExactNumber) → Same c (mul_exact a b) → times (num c) (dn a) ≡ times (times (num a) (num b)) (dn c)
whole_times a b o c s = ap (times (num c)) (sym (dn_whole a b o)) ∙ same_num c (mul_exact a b) s ∙ ap (λ z. times z (dn c)) (num_mul a b)

-- the turn of the definition, where the way from p to q is t times v
pub turn_along : (v p q r : ExactPoint) (t : ExactNumber) → IsWhole v → SamePoint (away p q) (record { x = mul_exact t v.x; y = mul_exact t v.y }) → times (num (turn (away p q) (away p r))) (dn t) ≡ times (times (num t) (times (dn (away p q).x) (dn (away p q).y))) (cross v p r)
unfolding cross gx gy
turn_along v p q r t w s =
    let W = away p q in
    let u = away p r in
    ap (λ z. times z (dn t)) (turn_num W u)
    ∙ turns (num W.x) (num W.y) (num u.x) (num u.y) (dn W.x) (dn W.y) (dn u.x) (dn u.y) (dn t) (num t) (num v.x) (num v.y) (whole_times t v.x w.x W.x s.x) (whole_times t v.y w.y W.y s.y)

-- the line through p along v, by the turn of the definition
pub straight : (v p q r : ExactPoint) (t : ExactNumber) → IsWhole v → Above (num t) → SamePoint (away p q) (record { x = mul_exact t v.x; y = mul_exact t v.y }) → IsZero (turn (away p q) (away p r)) ↔ (cross v p r ≡ count 0)
straight v p q r t w h s = (
  λ z. zero_out (times (num t) (times (dn (away p q).x) (dn (away p q).y))) _ big (sym (turn_along v p q r t w s) ∙ in_right _ _ ((zero_num (turn (away p q) (away p r))).0 z)),
  λ e. (zero_num (turn (away p q) (away p r))).1 (out_right _ _ (dn_above t) (turn_along v p q r t w s ∙ ap (times (times (num t) (times (dn (away p q).x) (dn (away p q).y)))) e ∙ times_zero _)),
)
  where
    big : Above (times (num t) (times (dn (away p q).x) (dn (away p q).y)))
    big = above_times _ _ h (above_times _ _ (dn_above (away p q).x) (dn_above (away p q).y))

pub above_num : (t : ExactNumber) → Positive t.a t.b → Above (num t)
unfolding num
above_num t h = h

-- the vector of a segment from its lesser end points ahead
pub ahead_of : (v p q : ExactPoint) (t : ExactNumber) → IsWhole v → Above (num t) → SamePoint (away p q) (record { x = mul_exact t v.x; y = mul_exact t v.y }) → Before p q → Ahead (num v.x) (num v.y)
unfolding gx gy
ahead_of v p q t w h s b = elim ((before_gap p q).0 b) [
  | inl g ↦ inl (part v.x w.x (sub q.x p.x) s.x (above_right _ _ (dn_above (sub q.y p.y)) g))
  | inr g ↦ inr (none_part v.x w.x (sub q.x p.x) s.x (out_right _ _ (dn_above (sub q.y p.y)) g.0), part v.y w.y (sub q.y p.y) s.y (above_right _ _ (dn_above (sub q.x p.x)) g.1))
]
  where
    along : (b : ExactNumber) → b.d ≡ 1 → (c : ExactNumber) → Same c (mul_exact t b) → times (num c) (dn t) ≡ times (times (num t) (num b)) (dn c)
    along b o c s = ap (times (num c)) (sym (dn_whole t b o)) ∙ same_num c (mul_exact t b) s ∙ ap (λ z. times z (dn c)) (num_mul t b)

    part : (b : ExactNumber) → b.d ≡ 1 → (c : ExactNumber) → Same c (mul_exact t b) → Above (num c) → Above (num b)
    part b o c s g = above_out (num t) (num b) h (above_right _ (dn c) (dn_above c) (subst Above (along b o c s) (above_times _ _ g (dn_above t))))

    none_part : (b : ExactNumber) → b.d ≡ 1 → (c : ExactNumber) → Same c (mul_exact t b) → num c ≡ count 0 → num b ≡ count 0
    none_part b o c s g = zero_out (num t) (num b) h (out_right _ (dn c) (dn_above c) (sym (along b o c s) ∙ in_right (num c) (dn t) g))

pub turn_itself : (U : ExactPoint) → IsZero (turn U U)
turn_itself U = (zero_num (turn U U)).1 (turn_num U U ∙ solve (num U.x ∷ num U.y ∷ dn U.x ∷ dn U.y ∷ []) (add (mul (mul (at 0) (at 1)) (mul (at 3) (at 2))) (opp (mul (mul (at 1) (at 0)) (mul (at 2) (at 3))))) none refl)

-- The common point by two linear equations, and a part of a segment as a segment.
use Rattle.std.proofs.Common.{◌≡◌, ◌≢◌, ℕ, [], ◌∷◌, refl, sym, ap, subst, ◌∙◌, inl, inr, arith}
use Rattle.std.proofs.lemmas.Int.{ints}
use Rattle.exact.specs.Number.{ExactNumber, Same, Positive, sub, whole, neg, mul as mul_exact}
use Rattle.exact.specs.Plane.{ExactPoint, SamePoint, Before, ExactSegment, away, vector}
use Rattle.geometry.specs.Root.{Root, plus, times, minus, count, Above}
use Rattle.geometry.specs.Gap.{num, dn, gx, gy, det, Ahead, IsWhole}
use Rattle.geometry.specs.Meeting.{Along}
use Rattle.geometry.proofs.RootRing.{both, plus_minus, times_comm, times_one, cancel_plus}
use Rattle.geometry.proofs.Solve.{Term, at, none, add, mul, opp, solve}
use Rattle.geometry.proofs.Domain.{above_count, zero_out, times_minus}
use Rattle.geometry.proofs.Gap.{num_same, num_mul, dn_whole, dn_above, before_gap, above_right}
use Rattle.geometry.proofs.Lines.{On, cross_is, weight, weight_above, apart_zero, ahead_core, level, minus_minus, right_minus}
use Rattle.geometry.proofs.Directions.{vector_whole, Unit_at, unit_at}
use Rattle.geometry.proofs.Segments.{ahead}

-- the turn of v and p, over the product of p's denominators
unfoldable pub level_of : ExactPoint → ExactPoint → Root
level_of v p = plus (times (num v.x) (times (num p.y) (dn p.x))) (minus (times (num v.y) (times (num p.x) (dn p.y))))

solve_terms : (vx vy wx wy px py pdx pdy m L cx cy cdx cdy : Root) (X Y : Root) →
    times cx (times (plus (times wx vy) (minus (times wy vx))) (times (times pdx pdy) L)) ≡ times cdx X →
    times cy (times (plus (times wx vy) (minus (times wy vx))) (times (times pdx pdy) L)) ≡ times cdy Y →
    X ≡ plus (times vx (times m (times pdx pdy))) (minus (times wx (times (plus (times vx (times py pdx)) (minus (times vy (times px pdy)))) L))) →
    Y ≡ plus (times vy (times m (times pdx pdy))) (minus (times wy (times (plus (times vx (times py pdx)) (minus (times vy (times px pdy)))) L))) →
    times (plus (times wx vy) (minus (times wy vx))) (times L (plus (times vx (times (plus (times cy pdy) (minus (times py cdy))) (times cdx pdx))) (minus (times vy (times (plus (times cx pdx) (minus (times px cdx))) (times cdy pdy)))))) ≡ count 0
solve_terms vx vy wx wy px py pdx pdy m L cx cy cdx cdy X Y e f x y =
    solve (vx ∷ vy ∷ wx ∷ wy ∷ px ∷ py ∷ pdx ∷ pdy ∷ L ∷ cx ∷ cy ∷ cdx ∷ cdy ∷ [])
    (mul D (mul (at 8) (add (mul (at 0) (mul (add (mul (at 10) (at 7)) (opp (mul (at 5) (at 12)))) (mul (at 11) (at 6)))) (opp (mul (at 1) (mul (add (mul (at 9) (at 6)) (opp (mul (at 4) (at 11)))) (mul (at 12) (at 7))))))))
    (add (add (mul (mul (at 11) (at 0)) (mul (at 10) (mul D (mul (mul (at 6) (at 7)) (at 8))))) (opp (mul (mul (at 12) (at 1)) (mul (at 9) (mul D (mul (mul (at 6) (at 7)) (at 8))))))) (opp (mul (mul (at 11) (at 12)) (mul (mul D (at 8)) (add (mul (at 0) (mul (at 5) (at 6))) (opp (mul (at 1) (mul (at 4) (at 7)))))))))
    refl
    ∙ ap (λ u. plus (plus (times (times cdx vx) u) (minus (times (times cdy vy) (times cx delta)))) rest) f
    ∙ ap (λ u. plus (plus (times (times cdx vx) (times cdy Y)) (minus (times (times cdy vy) u))) rest) e
    ∙ ap (λ u. plus (plus (times (times cdx vx) (times cdy u)) (minus (times (times cdy vy) (times cdx X)))) rest) y
    ∙ ap (λ u. plus (plus (times (times cdx vx) (times cdy (plus (times vy (times m (times pdx pdy))) (minus (times wy (times (plus (times vx (times py pdx)) (minus (times vy (times px pdy)))) L)))))) (minus (times (times cdy vy) (times cdx u)))) rest) x
    ∙ solve (vx ∷ vy ∷ wx ∷ wy ∷ px ∷ py ∷ pdx ∷ pdy ∷ L ∷ m ∷ m ∷ cdx ∷ cdy ∷ [])
    (add (add (mul (mul (at 11) (at 0)) (mul (at 12) (add (mul (at 1) (mul (at 9) (mul (at 6) (at 7)))) (opp (mul (at 3) (mul (add (mul (at 0) (mul (at 5) (at 6))) (opp (mul (at 1) (mul (at 4) (at 7))))) (at 8))))))) (opp (mul (mul (at 12) (at 1)) (mul (at 11) (add (mul (at 0) (mul (at 9) (mul (at 6) (at 7)))) (opp (mul (at 2) (mul (add (mul (at 0) (mul (at 5) (at 6))) (opp (mul (at 1) (mul (at 4) (at 7))))) (at 8))))))))) (opp (mul (mul (at 11) (at 12)) (mul (mul D (at 8)) (add (mul (at 0) (mul (at 5) (at 6))) (opp (mul (at 1) (mul (at 4) (at 7)))))))))
    none refl
  where
    D : Term
    D = add (mul (at 2) (at 1)) (opp (mul (at 3) (at 0)))

    delta : Root
    delta = times (plus (times wx vy) (minus (times wy vx))) (times (times pdx pdy) L)

    rest : Root
    rest = minus (times (times cdx cdy) (times (times (plus (times wx vy) (minus (times wy vx))) L) (plus (times vx (times py pdx)) (minus (times vy (times px pdy))))))

-- c solves the two equations
pub record Solves (v w p l c : ExactPoint) : Type 0 where
  pub x : times (num c.x) (times (det w v) (times (weight p) (weight l))) ≡ times (dn c.x) (plus (times (num v.x) (times (level_of w l) (weight p))) (minus (times (num w.x) (times (level_of v p) (weight l)))))
  pub y : times (num c.y) (times (det w v) (times (weight p) (weight l))) ≡ times (dn c.y) (plus (times (num v.y) (times (level_of w l) (weight p))) (minus (times (num w.y) (times (level_of v p) (weight l)))))

pub solves_on : (v w p l c : ExactPoint) → det w v ≢ count 0 → Solves v w p l c → On v p c
unfolding det weight level_of
solves_on v w p l c n s = record { on = zero_out (weight l) _ (weight_above l) (apart_zero (det w v) _ n (ap (λ u. times (det w v) (times (weight l) u)) (cross_is v p c) ∙ solve_terms (num v.x) (num v.y) (num w.x) (num w.y) (num p.x) (num p.y) (dn p.x) (dn p.y) (level_of w l) (weight l) (num c.x) (num c.y) (dn c.x) (dn c.y) _ _ s.x s.y refl refl)) }

flipped : (a d W L z x y : Root) → times a (times d (times W L)) ≡ times z (plus x (minus y)) → times a (times (minus d) (times L W)) ≡ times z (plus y (minus x))
flipped a d W L z x y e = solve (a ∷ d ∷ W ∷ L ∷ []) (mul (at 0) (mul (opp (at 1)) (mul (at 3) (at 2)))) (opp (mul (at 0) (mul (at 1) (mul (at 2) (at 3))))) refl ∙ ap minus e ∙ solve (z ∷ x ∷ y ∷ []) (opp (mul (at 0) (add (at 1) (opp (at 2))))) (mul (at 0) (add (at 2) (opp (at 1)))) refl

pub det_turned : (v w : ExactPoint) → det v w ≡ minus (det w v)
unfolding det
det_turned v w = solve (num v.x ∷ num v.y ∷ num w.x ∷ num w.y ∷ []) (add (mul (at 0) (at 3)) (opp (mul (at 1) (at 2)))) (opp (add (mul (at 2) (at 1)) (opp (mul (at 3) (at 0))))) refl

pub solves_back : (v w p l c : ExactPoint) → Solves v w p l c → Solves w v l p c
solves_back v w p l c s = record { x = ap (λ u. times (num c.x) (times u (times (weight l) (weight p)))) (det_turned v w) ∙ flipped _ _ _ _ _ _ _ s.x; y = ap (λ u. times (num c.y) (times u (times (weight l) (weight p)))) (det_turned v w) ∙ flipped _ _ _ _ _ _ _ s.y }

-- a solution of the two equations is on both lines
pub solution : (v w p l c : ExactPoint) → det w v ≢ count 0 → det v w ≢ count 0 → Solves v w p l c → On v p c × On w l c
solution v w p l c n m s = (solves_on v w p l c n s, solves_on w v l p c m (solves_back v w p l c s))

same_part : (c t b : ExactNumber) → b.d ≡ 1 → times (num c) (dn t) ≡ times (times (num t) (num b)) (dn c) → Same c (mul_exact t b)
same_part c t b o e = num_same c (mul_exact t b) (ap (times (num c)) (dn_whole t b o) ∙ e ∙ sym (ap (λ z. times z (dn c)) (num_mul t b)))

num_one : (x : ExactNumber) → x ≡ whole 1 → num x ≡ count 1
unfolding num count
num_one x e = both _ _ (ap (λ (y : ExactNumber). y.a) e) (ap (λ (y : ExactNumber). y.b) e)

num_down : (x : ExactNumber) → x ≡ neg (whole 1) → num x ≡ minus (count 1)
unfolding num count minus
num_down x e = both _ _ (ap (λ (y : ExactNumber). y.a) e) (ap (λ (y : ExactNumber). y.b) e)

pub num_neg : (x : ExactNumber) → num (neg x) ≡ minus (num x)
unfolding num minus
num_neg x = refl

pub dn_neg : (x : ExactNumber) → dn (neg x) ≡ dn x
unfolding dn
dn_neg x = refl

one_left : (x : Root) → times (count 1) x ≡ x
one_left x = times_comm (count 1) x ∙ times_one x

down_left : (x : Root) → times (minus (count 1)) x ≡ minus x
down_left x = right_minus (count 1) x ∙ ap minus (one_left x)

pub num_positive : (t : ExactNumber) → Above (num t) → Positive t.a t.b
unfolding num
num_positive t h = h

not_down : (x : Root) → x ≡ minus (count 1) → Above x → ⊥
unfolding minus count
not_down x e h = (let f = subst Above e h in elim f [ inl y ↦ omega (arith, ints, y.2) | inr z ↦ elim z [ inl y ↦ omega (arith, ints, y.0) | inr y ↦ omega (arith, ints, y.1) ] ])

not_down_zero : minus (count 1) ≡ count 0 → ⊥
unfolding minus count
not_down_zero e = (let f = ap (λ (y : Root). y.a) e in cc)

-- from one point of a line to a later one: its direction
pub way : (v lo hi : ExactPoint) → IsWhole v → Unit_at v → Ahead (num v.x) (num v.y) → On v lo hi → Before lo hi
    → (t : ExactNumber) × Positive t.a t.b × SamePoint (away lo hi) (record { x = mul_exact t v.x; y = mul_exact t v.y })
unfolding gx gy
way v lo hi w (Unit_at.x_up u) a h b =
    let one = num_one v.x u in
    let X = sub hi.x lo.x in let Y = sub hi.y lo.y in
    let up : Above (gx lo hi) = (ahead_core (num v.x) (num v.y) (gx lo hi) (count 1) (gx lo hi) (gy lo hi) a (ap (λ z. times z (gx lo hi)) one) (sym (level v lo hi h) ∙ ap (λ z. times z (gy lo hi)) one) (level v lo hi h) (above_count 1 (omega arith))).0 ((before_gap lo hi).0 b) in (
      X,
      num_positive X (above_right (num X) (dn Y) (dn_above Y) up),
      record {
        x = same_part X X v.x w.x (ap (λ z. times z (dn X)) (sym (ap (times (num X)) one ∙ times_one (num X))));
        y = same_part Y X v.y w.y (sym (one_left _) ∙ ap (λ z. times z (times (num Y) (dn X))) (sym one) ∙ level v lo hi h ∙ solve (num v.y ∷ num X ∷ dn Y ∷ []) (mul (at 0) (mul (at 1) (at 2))) (mul (mul (at 1) (at 0)) (at 2)) refl);
      },
    )
way v lo hi w (Unit_at.y_up u) a h b =
    let one = num_one v.y u in
    let X = sub hi.x lo.x in let Y = sub hi.y lo.y in
    let up : Above (gy lo hi) = (ahead_core (num v.x) (num v.y) (gy lo hi) (count 1) (gx lo hi) (gy lo hi) a (level v lo hi h ∙ ap (λ z. times z (gx lo hi)) one) (ap (λ z. times z (gy lo hi)) one) (level v lo hi h) (above_count 1 (omega arith))).0 ((before_gap lo hi).0 b) in (
      Y,
      num_positive Y (above_right (num Y) (dn X) (dn_above X) up),
      record {
        x = same_part X Y v.x w.x (sym (one_left _) ∙ ap (λ z. times z (times (num X) (dn Y))) (sym one) ∙ sym (level v lo hi h) ∙ solve (num v.x ∷ num Y ∷ dn X ∷ []) (mul (at 0) (mul (at 1) (at 2))) (mul (mul (at 1) (at 0)) (at 2)) refl);
        y = same_part Y Y v.y w.y (ap (λ z. times z (dn Y)) (sym (ap (times (num Y)) one ∙ times_one (num Y))));
      },
    )
way v lo hi w (Unit_at.x_down u) a h b = absurd (elim a [ inl x ↦ not_down (num v.x) (num_down v.x u) x | inr x ↦ not_down_zero (sym (num_down v.x u) ∙ x.0) ])
way v lo hi w (Unit_at.y_down u) a h b =
    let down = num_down v.y u in
    let X = sub hi.x lo.x in let Y = sub hi.y lo.y in
    let up : Above (minus (gy lo hi)) = (ahead_core (num v.x) (num v.y) (minus (gy lo hi)) (count 1) (gx lo hi) (gy lo hi) a
    (times_minus _ _ ∙ ap minus (level v lo hi h ∙ ap (λ z. times z (gx lo hi)) down ∙ down_left _) ∙ minus_minus _ ∙ sym (one_left _))
    (ap (λ z. times z (minus (gy lo hi))) down ∙ down_left _ ∙ minus_minus _ ∙ sym (one_left _)) (level v lo hi h) (above_count 1 (omega arith))).0 ((before_gap lo hi).0 b) in (
      neg Y,
      num_positive (neg Y) (subst Above (sym (num_neg Y)) (above_right (minus (num Y)) (dn X) (dn_above X) (subst Above (sym (right_minus _ _)) up))),
      record {
        x = same_part X (neg Y) v.x w.x (ap (times (num X)) (dn_neg Y) ∙ sym (minus_minus _) ∙ ap minus (sym (down_left _) ∙ ap (λ z. times z (times (num X) (dn Y))) (sym down) ∙ sym (level v lo hi h)) ∙ solve (num v.x ∷ num Y ∷ dn X ∷ []) (opp (mul (at 0) (mul (at 1) (at 2)))) (mul (mul (opp (at 1)) (at 0)) (at 2)) refl ∙ ap (λ z. times (times z (num v.x)) (dn X)) (sym (num_neg Y)));
        y = same_part Y (neg Y) v.y w.y (ap (times (num Y)) (dn_neg Y) ∙ ap (λ z. times z (dn Y)) (sym (minus_minus _) ∙ ap minus (sym (down_left (num Y)) ∙ ap (λ z. times z (num Y)) (sym down)) ∙ solve (num v.y ∷ num Y ∷ []) (opp (mul (at 0) (at 1))) (mul (opp (at 1)) (at 0)) refl ∙ ap (λ z. times z (num v.y)) (sym (num_neg Y))));
      },
    )

-- a part of a segment is a segment of its direction
pub part_along : (s u : ExactSegment) (k : ℕ) → Along s k → On (vector k) u.p u.q → Before u.p u.q → Along u k
part_along s u k a h b = record { small = a.small; ordered = b; dir = way (vector k) u.p u.q (vector_whole k) (unit_at k a.small) (ahead s k a) h b }

cancel_times : (M x y : Root) → Above M → times M x ≡ times M y → x ≡ y
cancel_times M x y h e = cancel_plus x y (minus y) (zero_out M (plus x (minus y)) h (solve (M ∷ x ∷ y ∷ []) (mul (at 0) (add (at 1) (opp (at 2)))) (add (mul (at 0) (at 1)) (opp (mul (at 0) (at 2)))) refl ∙ ap (λ t. plus t (minus (times M y))) e ∙ plus_minus _) ∙ sym (plus_minus y))

-- Division by D through E, its conjugate or the negative of that: E D is the whole number M above zero. From the number over M W to one field of `Solves`.
pub from_inverse : (c D E W X M d : Root) → Above M → times E D ≡ M → times c (times M W) ≡ times (times X E) d → times c (times D W) ≡ times d X
from_inverse c D E W X M d h e f = cancel_times M (times c (times D W)) (times d X) h (
    solve (M ∷ c ∷ D ∷ W ∷ []) (mul (at 0) (mul (at 1) (mul (at 2) (at 3)))) (mul (mul (at 1) (mul (at 0) (at 3))) (at 2)) refl
    ∙ ap (λ t. times t D) f
    ∙ solve (X ∷ E ∷ d ∷ D ∷ []) (mul (mul (mul (at 0) (at 1)) (at 2)) (at 3)) (mul (mul (at 1) (at 3)) (mul (at 2) (at 0))) refl
    ∙ ap (λ t. times t (times d X)) e)

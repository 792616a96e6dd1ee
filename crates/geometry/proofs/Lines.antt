-- Lines by directions: points of one line, of two lines, and the sides of a line.
use Rattle.std.proofs.Common.{◌≡◌, ◌≢◌, List, [], ◌∷◌, refl, sym, ap, subst, ◌∙◌, inl, inr}
use Rattle.std.specs.Prelude.{◌↔◌}
use Rattle.exact.specs.Plane.{ExactPoint, SamePoint, Before}
use Rattle.geometry.specs.Root.{Root, plus, times, minus, count, Above}
use Rattle.geometry.specs.Gap.{num, dn, gx, gy, cross, det, Ahead}
use Rattle.geometry.proofs.RootRing.{plus_zero, plus_minus, cancel_plus}
use Rattle.geometry.proofs.Solve.{at, none, add, mul, opp, solve, value, times_zero, zero_plus}
use Rattle.geometry.proofs.Domain.{above_times, above_out, zero_out, above_not_zero, sign_of, times_minus}
use Rattle.geometry.proofs.Gap.{dn_above, num_sub, dn_sub, same_gap, before_gap, out_right, in_right}

-- the product of a point's denominators
unfoldable pub weight : ExactPoint → Root
weight r = times (dn r.x) (dn r.y)

pub weight_above : (r : ExactPoint) → Above (weight r)
unfolding weight
weight_above r = above_times (dn r.x) (dn r.y) (dn_above r.x) (dn_above r.y)

pub cross_is : (v p r : ExactPoint) → cross v p r ≡ plus (times (num v.x) (times (plus (times (num r.y) (dn p.y)) (minus (times (num p.y) (dn r.y)))) (times (dn r.x) (dn p.x)))) (minus (times (num v.y) (times (plus (times (num r.x) (dn p.x)) (minus (times (num p.x) (dn r.x)))) (times (dn r.y) (dn p.y)))))
unfolding cross gx gy
cross_is v p r = rw (num_sub r.x p.x, num_sub r.y p.y, dn_sub r.x p.x, dn_sub r.y p.y) refl

-- Places: a vector at 0 and 1, then four for a point, x, y and their denominators.
chain_terms : (vx vy px py pdx pdy ux uy udx udy wx wy wdx wdy : Root) → (let r : List Root = vx ∷ vy ∷ px ∷ py ∷ pdx ∷ pdy ∷ ux ∷ uy ∷ udx ∷ udy ∷ wx ∷ wy ∷ wdx ∷ wdy ∷ [] in
    value r (mul (add (mul (at 0) (mul (add (mul (at 11) (at 5)) (opp (mul (at 3) (at 13)))) (mul (at 12) (at 4)))) (opp (mul (at 1) (mul (add (mul (at 10) (at 4)) (opp (mul (at 2) (at 12)))) (mul (at 13) (at 5)))))) (mul (at 8) (at 9))) ≡ value r (add (mul (add (mul (at 0) (mul (add (mul (at 7) (at 5)) (opp (mul (at 3) (at 9)))) (mul (at 8) (at 4)))) (opp (mul (at 1) (mul (add (mul (at 6) (at 4)) (opp (mul (at 2) (at 8)))) (mul (at 9) (at 5)))))) (mul (at 12) (at 13))) (mul (add (mul (at 0) (mul (add (mul (at 11) (at 9)) (opp (mul (at 7) (at 13)))) (mul (at 12) (at 8)))) (opp (mul (at 1) (mul (add (mul (at 10) (at 8)) (opp (mul (at 6) (at 12)))) (mul (at 13) (at 9)))))) (mul (at 4) (at 5)))))
chain_terms vx vy px py pdx pdy ux uy udx udy wx wy wdx wdy = solve (vx ∷ vy ∷ px ∷ py ∷ pdx ∷ pdy ∷ ux ∷ uy ∷ udx ∷ udy ∷ wx ∷ wy ∷ wdx ∷ wdy ∷ [])
    (mul (add (mul (at 0) (mul (add (mul (at 11) (at 5)) (opp (mul (at 3) (at 13)))) (mul (at 12) (at 4)))) (opp (mul (at 1) (mul (add (mul (at 10) (at 4)) (opp (mul (at 2) (at 12)))) (mul (at 13) (at 5)))))) (mul (at 8) (at 9)))
    (add (mul (add (mul (at 0) (mul (add (mul (at 7) (at 5)) (opp (mul (at 3) (at 9)))) (mul (at 8) (at 4)))) (opp (mul (at 1) (mul (add (mul (at 6) (at 4)) (opp (mul (at 2) (at 8)))) (mul (at 9) (at 5)))))) (mul (at 12) (at 13))) (mul (add (mul (at 0) (mul (add (mul (at 11) (at 9)) (opp (mul (at 7) (at 13)))) (mul (at 12) (at 8)))) (opp (mul (at 1) (mul (add (mul (at 10) (at 8)) (opp (mul (at 6) (at 12)))) (mul (at 13) (at 9)))))) (mul (at 4) (at 5)))) refl

-- of three points: the way from p to w is that to u and that from u to w
pub chain : (v p u w : ExactPoint) → times (cross v p w) (weight u) ≡ plus (times (cross v p u) (weight w)) (times (cross v u w) (weight p))
unfolding weight
chain v p u w = rw (cross_is v p w, cross_is v p u, cross_is v u w) (chain_terms (num v.x) (num v.y) (num p.x) (num p.y) (dn p.x) (dn p.y) (num u.x) (num u.y) (dn u.x) (dn u.y) (num w.x) (num w.y) (dn w.x) (dn w.y))

back_terms : (vx vy px py pdx pdy rx ry rdx rdy : Root) → (let r : List Root = vx ∷ vy ∷ px ∷ py ∷ pdx ∷ pdy ∷ rx ∷ ry ∷ rdx ∷ rdy ∷ [] in value r (add (mul (at 0) (mul (add (mul (at 3) (at 9)) (opp (mul (at 7) (at 5)))) (mul (at 4) (at 8)))) (opp (mul (at 1) (mul (add (mul (at 2) (at 8)) (opp (mul (at 6) (at 4)))) (mul (at 5) (at 9)))))) ≡ value r (opp (add (mul (at 0) (mul (add (mul (at 7) (at 5)) (opp (mul (at 3) (at 9)))) (mul (at 8) (at 4)))) (opp (mul (at 1) (mul (add (mul (at 6) (at 4)) (opp (mul (at 2) (at 8)))) (mul (at 9) (at 5))))))))
back_terms vx vy px py pdx pdy rx ry rdx rdy = solve (vx ∷ vy ∷ px ∷ py ∷ pdx ∷ pdy ∷ rx ∷ ry ∷ rdx ∷ rdy ∷ []) (add (mul (at 0) (mul (add (mul (at 3) (at 9)) (opp (mul (at 7) (at 5)))) (mul (at 4) (at 8)))) (opp (mul (at 1) (mul (add (mul (at 2) (at 8)) (opp (mul (at 6) (at 4)))) (mul (at 5) (at 9)))))) (opp (add (mul (at 0) (mul (add (mul (at 7) (at 5)) (opp (mul (at 3) (at 9)))) (mul (at 8) (at 4)))) (opp (mul (at 1) (mul (add (mul (at 6) (at 4)) (opp (mul (at 2) (at 8)))) (mul (at 9) (at 5))))))) refl

pub cross_back : (v p r : ExactPoint) → cross v r p ≡ minus (cross v p r)
cross_back v p r = rw (cross_is v p r, cross_is v r p) (back_terms (num v.x) (num v.y) (num p.x) (num p.y) (dn p.x) (dn p.y) (num r.x) (num r.y) (dn r.x) (dn r.y))

pub minus_zero : minus (count 0) ≡ count 0
minus_zero = solve [] (opp none) none refl

pub minus_minus : (x : Root) → minus (minus x) ≡ x
minus_minus x = solve (x ∷ []) (opp (opp (at 0))) (at 0) refl

-- r is on the line through p along v
pub record On (v p r : ExactPoint) : Type 0 where
  pub on : cross v p r ≡ count 0

pub on_back : (v p r : ExactPoint) → On v p r → On v r p
on_back v p r h = record { on = cross_back v p r ∙ ap minus h.on ∙ minus_zero }

-- two points of a line through p
pub on_from : (v p u w : ExactPoint) → On v p u → On v p w → On v u w
on_from v p u w h k = record { on = out_right _ _ (weight_above p) (sym (zero_plus _) ∙ ap (λ t. plus t (times (cross v u w) (weight p))) (sym (in_right _ (weight w) h.on)) ∙ sym (chain v p u w) ∙ in_right _ (weight u) k.on) }

pub on_trans : (v p u w : ExactPoint) → On v p u → On v u w → On v p w
on_trans v p u w h k = on_from v u p w (on_back v p u h) k

-- the side of a line through p and c, from p and from c
pub side_moved : (w p c r : ExactPoint) → On w p c → times (cross w p r) (weight c) ≡ times (cross w c r) (weight p)
side_moved w p c r h = chain w p c r ∙ ap (λ t. plus t (times (cross w c r) (weight p))) (in_right _ (weight r) h.on) ∙ zero_plus _

-- D G = v K in both coordinates: K and G have one sign, if D is above zero and v ahead
pub ahead_core : (vx vy K D x y : Root) → Ahead vx vy → times vx K ≡ times D x → times vy K ≡ times D y → times vx y ≡ times vy x → Above D → Ahead x y ↔ Above K
ahead_core vx vy K D x y a e f g d = (
  λ h. elim a [
    | inl p ↦ elim h [
      | inl q ↦ above_out vx K p (subst Above (sym e) (above_times D x d q))
      | inr q ↦ absurd (above_not_zero (subst Above (g ∙ ap (times vy) q.0 ∙ times_zero vy) (above_times vx y p q.1)))
    ]
    | inr p ↦ elim h [
      | inl q ↦ absurd (above_not_zero (subst Above (sym g ∙ in_right vx y p.0) (above_times vy x p.1 q)))
      | inr q ↦ above_out vy K p.1 (subst Above (sym f) (above_times D y d q.1))
    ]
  ],
  λ k. elim a [
    | inl p ↦ inl (above_out D x d (subst Above e (above_times vx K p k)))
    | inr p ↦ inr (zero_out vy x p.1 (sym g ∙ in_right vx y p.0), above_out D y d (subst Above f (above_times vy K p.1 k)))
  ],
)

-- w x (vx y - vy x) in both coordinates
det_x : (vx vy wx wy x y : Root) → times vx (plus (times wx y) (minus (times wy x))) ≡ plus (times (plus (times wx vy) (minus (times wy vx))) x) (times wx (plus (times vx y) (minus (times vy x))))
det_x vx vy wx wy x y = solve (vx ∷ vy ∷ wx ∷ wy ∷ x ∷ y ∷ []) (mul (at 0) (add (mul (at 2) (at 5)) (opp (mul (at 3) (at 4))))) (add (mul (add (mul (at 2) (at 1)) (opp (mul (at 3) (at 0)))) (at 4)) (mul (at 2) (add (mul (at 0) (at 5)) (opp (mul (at 1) (at 4)))))) refl

det_y : (vx vy wx wy x y : Root) → times vy (plus (times wx y) (minus (times wy x))) ≡ plus (times (plus (times wx vy) (minus (times wy vx))) y) (times wy (plus (times vx y) (minus (times vy x))))
det_y vx vy wx wy x y = solve (vx ∷ vy ∷ wx ∷ wy ∷ x ∷ y ∷ []) (mul (at 1) (add (mul (at 2) (at 5)) (opp (mul (at 3) (at 4))))) (add (mul (add (mul (at 2) (at 1)) (opp (mul (at 3) (at 0)))) (at 5)) (mul (at 3) (add (mul (at 0) (at 5)) (opp (mul (at 1) (at 4)))))) refl

plus_none : (x y : Root) → y ≡ count 0 → plus x y ≡ x
plus_none x y e = ap (plus x) e ∙ plus_zero x

-- b from a on a line along v, by its turn from w
pub by_det_x : (v w a b : ExactPoint) → On v a b → times (num v.x) (cross w a b) ≡ times (det w v) (gx a b)
unfolding cross det
by_det_x v w a b h = det_x (num v.x) (num v.y) (num w.x) (num w.y) (gx a b) (gy a b) ∙ plus_none _ _ (ap (times (num w.x)) h.on ∙ times_zero _)

pub by_det_y : (v w a b : ExactPoint) → On v a b → times (num v.y) (cross w a b) ≡ times (det w v) (gy a b)
unfolding cross det
by_det_y v w a b h = det_y (num v.x) (num v.y) (num w.x) (num w.y) (gx a b) (gy a b) ∙ plus_none _ _ (ap (times (num w.y)) h.on ∙ times_zero _)

pub apart_zero : (D x : Root) → D ≢ count 0 → times D x ≡ count 0 → x ≡ count 0
apart_zero D x n e = elim (sign_of D) [
  | inl h ↦ zero_out D x h e
  | inr k ↦ elim k [
    | inl z ↦ absurd (n z)
    | inr h ↦ zero_out (minus D) x h (solve (D ∷ x ∷ []) (mul (opp (at 0)) (at 1)) (opp (mul (at 0) (at 1))) refl ∙ ap minus e ∙ minus_zero)
  ]
]

-- lines of directions that are not parallel have at most one common point
pub one_point : (v w a b : ExactPoint) → det w v ≢ count 0 → On v a b → On w a b → SamePoint a b
one_point v w a b n h k = (same_gap a b).1 (
  apart_zero (det w v) (gx a b) n (sym (by_det_x v w a b h) ∙ ap (times (num v.x)) k.on ∙ times_zero _),
  apart_zero (det w v) (gy a b) n (sym (by_det_y v w a b h) ∙ ap (times (num v.y)) k.on ∙ times_zero _),
)

pub level : (v a b : ExactPoint) → On v a b → times (num v.x) (gy a b) ≡ times (num v.y) (gx a b)
unfolding cross
level v a b h = cancel_plus _ _ (minus (times (num v.y) (gx a b))) (h.on ∙ sym (plus_minus _))

-- along a line with direction v the turn from w rises, or falls
pub rises : (v w a b : ExactPoint) → Ahead (num v.x) (num v.y) → Above (det w v) → On v a b → Before a b ↔ Above (cross w a b)
rises v w a b s d h = (λ k. core.0 ((before_gap a b).0 k), λ k. (before_gap a b).1 (core.1 k))
  where
    core : Ahead (gx a b) (gy a b) ↔ Above (cross w a b)
    core = ahead_core (num v.x) (num v.y) (cross w a b) (det w v) (gx a b) (gy a b) s (by_det_x v w a b h) (by_det_y v w a b h) (level v a b h) d

minus_both : (x y u v : Root) → times x y ≡ times u v → times x (minus y) ≡ times (minus u) v
minus_both x y u v e = times_minus x y ∙ ap minus e ∙ solve (u ∷ v ∷ []) (opp (mul (at 0) (at 1))) (mul (opp (at 0)) (at 1)) refl

pub falls : (v w a b : ExactPoint) → Ahead (num v.x) (num v.y) → Above (minus (det w v)) → On v a b → Before a b ↔ Above (minus (cross w a b))
falls v w a b s d h = (λ k. core.0 ((before_gap a b).0 k), λ k. (before_gap a b).1 (core.1 k))
  where
    core : Ahead (gx a b) (gy a b) ↔ Above (minus (cross w a b))
    core = ahead_core (num v.x) (num v.y) (minus (cross w a b)) (minus (det w v)) (gx a b) (gy a b) s (minus_both _ _ _ _ (by_det_x v w a b h)) (minus_both _ _ _ _ (by_det_y v w a b h)) (level v a b h) d

pub right_minus : (x y : Root) → times (minus x) y ≡ minus (times x y)
right_minus x y = solve (x ∷ y ∷ []) (mul (opp (at 0)) (at 1)) (opp (mul (at 0) (at 1))) refl

pub on_same : (v p r : ExactPoint) → SamePoint p r → On v p r
unfolding cross
on_same v p r s = record { on = (let g = (same_gap p r).0 s in ap (λ t. plus (times (num v.x) t) (minus (times (num v.y) (gx p r)))) g.1 ∙ ap (λ t. plus (times (num v.x) (count 0)) (minus (times (num v.y) t))) g.0 ∙ solve (num v.x ∷ num v.y ∷ []) (add (mul (at 0) none) (opp (mul (at 1) none))) none refl) }

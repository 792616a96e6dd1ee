-- How a way in one of the sixteen directions turns from another, and on which side of a line it leads.
use Rattle.std.specs.Prelude.{◌↔◌}
use Rattle.std.proofs.Common.{◌≡◌, ℕ, ◌+◌, ◌-◌, ◌%◌, ◌<◌, [], ◌∷◌, refl, sym, ap, subst, ◌∙◌}
use Rattle.exact.specs.Number.{neg}
use Rattle.exact.specs.Plane.{ExactPoint, DirOf, away, turn, vector}
use Rattle.exact.proofs.Turns.{turns as turns_by_angle}
use Rattle.geometry.specs.Root.{Root, plus, times, minus, Above, count}
use Rattle.geometry.specs.Gap.{num, dn, gx, gy, cross, det}
use Rattle.geometry.proofs.Solve.{at, add, mul, opp, solve}
use Rattle.geometry.proofs.Domain.{above_times, above_out, times_minus}
use Rattle.geometry.proofs.Gap.{dn_above, above_num, above_right, whole_times, zero_num}
use Rattle.geometry.proofs.Directions.{vector_whole}
use Rattle.geometry.proofs.Found.{turn_det}
use Rattle.geometry.proofs.Lines.{right_minus}
use Rattle.geometry.proofs.Parts.{num_neg}

way_core : (wx wy Ux Uy Dx Dy T t vx vy : Root) → times Ux T ≡ times (times t vx) Dx → times Uy T ≡ times (times t vy) Dy
    → times (plus (times wx (times Uy Dx)) (minus (times wy (times Ux Dy)))) T ≡ times (times t (times Dx Dy)) (plus (times wx vy) (minus (times wy vx)))
way_core wx wy Ux Uy Dx Dy T t vx vy e f =
    solve (wx ∷ wy ∷ Ux ∷ Uy ∷ Dx ∷ Dy ∷ T ∷ [])
    (mul (add (mul (at 0) (mul (at 3) (at 4))) (opp (mul (at 1) (mul (at 2) (at 5))))) (at 6))
    (add (mul (at 0) (mul (mul (at 3) (at 6)) (at 4))) (opp (mul (at 1) (mul (mul (at 2) (at 6)) (at 5))))) refl
    ∙ ap (λ u. plus (times wx (times u Dx)) (minus (times wy (times (times Ux T) Dy)))) f
    ∙ ap (λ u. plus (times wx (times (times (times t vy) Dy) Dx)) (minus (times wy (times u Dy)))) e
    ∙ solve (wx ∷ wy ∷ t ∷ vx ∷ vy ∷ Dx ∷ Dy ∷ [])
    (add (mul (at 0) (mul (mul (mul (at 2) (at 4)) (at 6)) (at 5))) (opp (mul (at 1) (mul (mul (mul (at 2) (at 3)) (at 5)) (at 6)))))
    (mul (mul (at 2) (mul (at 5) (at 6))) (add (mul (at 0) (at 4)) (opp (mul (at 1) (at 3))))) refl

-- a way in direction k turns from w as the vector of k does
pub way_side : (w x y : ExactPoint) (k : ℕ) (h : DirOf x y k) → times (cross w x y) (dn h.0) ≡ times (times (num h.0) (times (dn (away x y).x) (dn (away x y).y))) (det w (vector k))
unfolding cross det gx gy
way_side w x y k h =
    let v = vector_whole k in
    way_core (num w.x) (num w.y) (num (away x y).x) (num (away x y).y) (dn (away x y).x) (dn (away x y).y) (dn h.0) (num h.0) (num (vector k).x) (num (vector k).y)
    (whole_times h.0 (vector k).x v.x (away x y).x h.2.x) (whole_times h.0 (vector k).y v.y (away x y).y h.2.y)

pub way_size : (x y : ExactPoint) (k : ℕ) (h : DirOf x y k) → Above (times (num h.0) (times (dn (away x y).x) (dn (away x y).y)))
way_size x y k h = above_times _ _ (above_num h.0 h.1) (above_times _ _ (dn_above (away x y).x) (dn_above (away x y).y))

pub way_left : (w x y : ExactPoint) (k : ℕ) → DirOf x y k → Above (det w (vector k)) ↔ Above (cross w x y)
way_left w x y k h = (
  λ d. above_right _ _ (dn_above h.0) (subst Above (sym (way_side w x y k h)) (above_times _ _ (way_size x y k h) d)),
  λ d. above_out _ _ (way_size x y k h) (subst Above (way_side w x y k h) (above_times _ _ d (dn_above h.0))),
)

pub way_right : (w x y : ExactPoint) (k : ℕ) → DirOf x y k → Above (minus (det w (vector k))) ↔ Above (minus (cross w x y))
way_right w x y k h = (
  λ d. above_right _ _ (dn_above h.0) (subst Above (sym down) (above_times _ _ (way_size x y k h) d)),
  λ d. above_out _ _ (way_size x y k h) (subst Above down (above_times _ _ d (dn_above h.0))),
)
  where
    down : times (minus (cross w x y)) (dn h.0) ≡ times (times (num h.0) (times (dn (away x y).x) (dn (away x y).y))) (minus (det w (vector k)))
    down = right_minus _ _ ∙ ap minus (way_side w x y k h) ∙ sym (times_minus _ _)

-- the turns of directions, by their angle
pub det_left : (i j : ℕ) → i < 16 → j < 16 → 0 < (j + 16 - i) % 16 → (j + 16 - i) % 16 < 8 → Above (det (vector i) (vector j))
det_left i j p q some half = subst Above (turn_det (vector i) (vector j) (vector_whole i) (vector_whole j)) (above_num (turn (vector i) (vector j)) ((turns_by_angle i j p q).left some half))

pub det_right : (i j : ℕ) → i < 16 → j < 16 → 8 < (j + 16 - i) % 16 → Above (minus (det (vector i) (vector j)))
det_right i j p q more = subst Above (num_neg (turn (vector i) (vector j)) ∙ ap minus (turn_det (vector i) (vector j) (vector_whole i) (vector_whole j))) (above_num (neg (turn (vector i) (vector j))) ((turns_by_angle i j p q).right more))

pub det_none : (i j : ℕ) → i < 16 → j < 16 → (j + 16 - i) % 8 ≡ 0 → det (vector i) (vector j) ≡ count 0
det_none i j p q e = sym (turn_det (vector i) (vector j) (vector_whole i) (vector_whole j)) ∙ (zero_num (turn (vector i) (vector j))).0 ((turns_by_angle i j p q).parallel e)

-- A triangle gone round counterclockwise: where the bisectors of two corners meet is on the left of each side, and on the third bisector.
use Rattle.std.proofs.Common.{◌≡◌, ℕ, ◌+◌, ◌-◌, ◌/◌, ◌%◌, ◌<◌, [], ◌∷◌, refl, sym, ap, subst, ◌∙◌, inl, inr, arith}
use Rattle.std.proofs.lemmas.Bool.{cases_order}
use Rattle.exact.specs.Plane.{ExactPoint, DirOf, vector}
use Rattle.geometry.specs.Root.{Root, plus, times, minus, Above}
use Rattle.geometry.specs.Gap.{num, gx, gy, cross, det}
use Rattle.geometry.proofs.RootRing.{plus_zero}
use Rattle.geometry.proofs.Solve.{at, add, mul, opp, solve, times_zero}
use Rattle.geometry.proofs.Domain.{above_times, above_not_minus, above_not_zero, times_minus}
use Rattle.geometry.proofs.Gap.{above_right, in_right}
use Rattle.geometry.proofs.Lines.{On, on_back, side_moved, chain, cross_back, weight, weight_above, right_minus, minus_minus, minus_zero}
use Rattle.geometry.proofs.Parallels.{dir_on, on_parallel}
use Rattle.geometry.proofs.HalfAngles.{axis, back, far, axis_equal, third_equal, far_above, moved_above}
use Rattle.geometry.proofs.WayTurns.{way_left, way_right, det_left, det_right, det_none}

-- the sides, one after another, lead in directions that turn left and are even angles apart
pub record IsCounterclockwise (p q r : ExactPoint) (i j m : ℕ) : Type 0 where
  pub i_small : i < 16
  pub j_small : j < 16
  pub m_small : m < 16
  pub pq : DirOf p q i
  pub qr : DirOf q r j
  pub rp : DirOf r p m
  pub some : 0 < (j + 16 - i) % 16
  pub half : (j + 16 - i) % 16 < 8
  pub even_q : (i + j) % 2 ≡ 0
  pub even_r : (j + m) % 2 ≡ 0

-- the angle, by the turn
pub angle_right : (i j : ℕ) → i < 16 → j < 16 → Above (minus (det (vector i) (vector j))) → 8 < (j + 16 - i) % 16
angle_right i j p q h = elim (cases_order ((j + 16 - i) % 8) 0) [
  | inl e ↦ absurd (above_not_zero (subst Above (ap minus (det_none i j p q e) ∙ minus_zero) h))
  | inr n ↦ elim (cases_order ((j + 16 - i) % 16) 8) [
    | inl e ↦ absurd (above_not_zero (subst Above (ap minus (det_none i j p q (omega (arith, e))) ∙ minus_zero) h))
    | inr m ↦ elim m [
      | inl l ↦ absurd (above_not_minus _ (det_left i j p q (elim n [ inl x ↦ omega (arith, x) | inr x ↦ omega (arith, x) ]) l) h)
      | inr g ↦ g
    ]
  ]
]

pub angle_left : (i j : ℕ) → i < 16 → j < 16 → Above (det (vector i) (vector j)) → (0 < (j + 16 - i) % 16) × ((j + 16 - i) % 16 < 8)
angle_left i j p q h = elim (cases_order ((j + 16 - i) % 8) 0) [
  | inl e ↦ absurd (above_not_zero (subst Above (det_none i j p q e) h))
  | inr n ↦ elim (cases_order ((j + 16 - i) % 16) 8) [
    | inl e ↦ absurd (above_not_zero (subst Above (det_none i j p q (omega (arith, e))) h))
    | inr m ↦ elim m [
      | inl l ↦ (elim n [ inl x ↦ omega (arith, x) | inr x ↦ omega (arith, x) ], l)
      | inr g ↦ absurd (above_not_minus _ h (det_right i j p q g))
    ]
  ]
]

-- the turns at two corners go one way round
pub turned : (p q r : ExactPoint) (i j m : ℕ) → DirOf p q i → DirOf q r j → DirOf r p m → Above (det (vector i) (vector j)) → Above (minus (det (vector i) (vector m)))
turned p q r i j m pq qr rp d = (way_right (vector i) r p m rp).1 (
    subst (λ z. Above (minus z)) (sym (cross_back (vector i) p r)) (subst Above (sym (minus_minus (cross (vector i) p r)))
    (above_right _ (weight q) (weight_above q) (subst Above (sym (side_moved (vector i) p q r (dir_on p q i pq))) (above_times _ _ ((way_left (vector i) q r j qr).0 d) (weight_above p))))))

pub turned_down : (p q r : ExactPoint) (i j m : ℕ) → DirOf p q i → DirOf q r j → DirOf r p m → Above (minus (det (vector i) (vector j))) → Above (det (vector i) (vector m))
turned_down p q r i j m pq qr rp d = (way_left (vector i) r p m rp).1 (
    subst Above (sym (cross_back (vector i) p r))
    (above_right _ (weight q) (weight_above q) (subst Above (sym (right_minus _ _ ∙ ap minus (side_moved (vector i) p q r (dir_on p q i pq)) ∙ sym (right_minus _ _))) (above_times _ _ ((way_right (vector i) q r j qr).0 d) (weight_above p)))))

-- the other two turns
pub record HasAngles (i j m : ℕ) : Type 0 where
  pub at_p : 8 < (m + 16 - i) % 16
  pub at_r : 8 < (j + 16 - m) % 16

pub angles : (p q r : ExactPoint) (i j m : ℕ) → IsCounterclockwise p q r i j m → HasAngles i j m
angles p q r i j m h =
    let first : Above (minus (det (vector i) (vector m))) = turned p q r i j m h.pq h.qr h.rp (det_left i j h.i_small h.j_small h.some h.half) in
    let at_p : 8 < (m + 16 - i) % 16 = angle_right i m h.i_small h.m_small first in
    let second : Above (det (vector m) (vector i)) = det_left m i h.m_small h.i_small (let a = h.i_small in let b = h.m_small in omega arith) (let a = h.i_small in let b = h.m_small in omega arith) in
    record {
      at_p = at_p;
      at_r = angle_right m j h.m_small h.j_small (turned r p q m i j h.rp h.pq h.qr second);
    }

-- the directions into the triangle that halve the angles at p and at q
abbrev pub from_p : ℕ → ℕ → ℕ
from_p i m = (i + (8 - (i + 16 - m) % 16) / 2) % 16

abbrev pub from_q : ℕ → ℕ → ℕ
from_q i j = (i + 8 - (8 - (j + 16 - i) % 16) / 2) % 16

swap_core : (vx vy wx wy kx ky x y : Root) → plus (times (plus (times vx y) (minus (times vy x))) (plus (times wx ky) (minus (times wy kx)))) (times (plus (times vx wy) (minus (times vy wx))) (plus (times kx y) (minus (times ky x))))
    ≡ times (plus (times wx y) (minus (times wy x))) (plus (times vx ky) (minus (times vy kx)))
swap_core vx vy wx wy kx ky x y = solve (vx ∷ vy ∷ wx ∷ wy ∷ kx ∷ ky ∷ x ∷ y ∷ [])
    (add (mul (add (mul (at 0) (at 7)) (opp (mul (at 1) (at 6)))) (add (mul (at 2) (at 5)) (opp (mul (at 3) (at 4))))) (mul (add (mul (at 0) (at 3)) (opp (mul (at 1) (at 2)))) (add (mul (at 4) (at 7)) (opp (mul (at 5) (at 6))))))
    (mul (add (mul (at 2) (at 7)) (opp (mul (at 3) (at 6)))) (add (mul (at 0) (at 5)) (opp (mul (at 1) (at 4))))) refl

-- of a point on the line through p along k: its turns from two vectors
pub swap_turns : (v w k p c : ExactPoint) → On k p c → times (cross v p c) (det w k) ≡ times (cross w p c) (det v k)
unfolding cross det
swap_turns v w k p c on =
    sym (plus_zero _)
    ∙ ap (plus (times (plus (times (num v.x) (gy p c)) (minus (times (num v.y) (gx p c)))) (plus (times (num w.x) (num k.y)) (minus (times (num w.y) (num k.x)))))) (sym (ap (times (plus (times (num v.x) (num w.y)) (minus (times (num v.y) (num w.x))))) on.on ∙ times_zero _))
    ∙ swap_core (num v.x) (num v.y) (num w.x) (num w.y) (num k.x) (num k.y) (gx p c) (gy p c)

-- c is on the bisectors of p and q, so it is on the left of the side between them
first_left : (p q c : ExactPoint) (i k l : ℕ) → i < 16 → k < 16 → l < 16 → DirOf p q i → 0 < (k + 16 - i) % 16 → (k + 16 - i) % 16 < 8 → 8 < (i + 16 - l) % 16 → 8 < (k + 16 - l) % 16 → On (vector k) p c → On (vector l) q c → Above (cross (vector i) p c)
first_left p q c i k l si sk sl pq some half at_q between pc qc =
    let away_q : Above (minus (cross (vector l) p q)) = (way_right (vector l) p q i pq).0 (det_right l i sl si at_q) in
    let seen : times (cross (vector l) p q) (weight c) ≡ times (cross (vector l) p c) (weight q) = chain (vector l) p c q ∙ ap (plus (times (cross (vector l) p c) (weight q))) (in_right _ (weight p) (on_back (vector l) q c qc).on) ∙ plus_zero _ in
    let down : Above (minus (cross (vector l) p c)) = above_right _ (weight q) (weight_above q) (subst Above (right_minus _ _ ∙ ap minus seen ∙ sym (right_minus _ _)) (above_times _ _ away_q (weight_above c))) in
    above_right _ (minus (det (vector l) (vector k))) (det_right l k sl sk between) (
    subst Above (right_minus _ _ ∙ ap minus (sym (swap_turns (vector i) (vector l) (vector k) p c pc)) ∙ sym (times_minus _ _)) (above_times _ _ down (det_left i k si sk some half)))

-- on the left of all three sides
pub record IsLeftOfAll (p q r c : ExactPoint) (i j m : ℕ) : Type 0 where
  pub pq : Above (cross (vector i) p c)
  pub qr : Above (cross (vector j) q c)
  pub rp : Above (cross (vector m) r c)

small_axis : (f s : ℕ) → axis f s < 16
small_axis f s = omega arith

-- the bisectors, in the directions into the triangle
pub along_p : (p q r c : ExactPoint) (i j m : ℕ) → IsCounterclockwise p q r i j m → On (vector (axis i (back m))) p c → On (vector (from_p i m)) p c
along_p p q r c i j m h at_p =
    let a = angles p q r i j m h in
    on_parallel (axis i (back m)) (from_p i m) p c (small_axis i (back m)) (omega arith) (omega (arith, h.even_q, h.even_r, a.at_p, h.i_small, h.m_small)) at_p

pub along_q : (p q r c : ExactPoint) (i j m : ℕ) → IsCounterclockwise p q r i j m → On (vector (axis j (back i))) q c → On (vector (from_q i j)) q c
along_q p q r c i j m h at_q = on_parallel (axis j (back i)) (from_q i j) q c (small_axis j (back i)) (omega arith) (omega (arith, h.even_q, h.some, h.half, h.i_small, h.j_small)) at_q

-- where the bisectors of p and q meet
pub met : (p q r c : ExactPoint) (i j m : ℕ) → IsCounterclockwise p q r i j m → On (vector (axis i (back m))) p c → On (vector (axis j (back i))) q c → IsLeftOfAll p q r c i j m × On (vector (axis m (back j))) r c
met p q r c i j m h at_p at_q = (
  record {
    pq = left;
    qr = (far_above j q c).1 (subst Above (sym equal_q) (moved_above i p q c (dir_on p q i h.pq) far_left));
    rp = (far_above m r c).1 (moved_above m p r c (on_back (vector m) r p (dir_on r p m h.rp)) (subst Above equal_p far_left));
  },
  (axis_equal m j r c sm sj (omega (arith, h.even_r)) (λ e. omega (arith, e, a.at_r, sm, sj))).1 (
      third_equal p q r c i j m (dir_on p q i h.pq) (dir_on q r j h.qr) (dir_on r p m h.rp) equal_p equal_q),
)
  where
    a : HasAngles i j m
    a = angles p q r i j m h

    si : i < 16
    si = h.i_small

    sj : j < 16
    sj = h.j_small

    sm : m < 16
    sm = h.m_small

    k : ℕ
    k = from_p i m

    l : ℕ
    l = from_q i j

    equal_p : far i p c ≡ far m p c
    equal_p = (axis_equal i m p c si sm (omega (arith, h.even_q, h.even_r)) (λ e. omega (arith, e, a.at_p, si, sm))).0 at_p

    equal_q : far j q c ≡ far i q c
    equal_q = (axis_equal j i q c sj si (omega (arith, h.even_q)) (λ e. omega (arith, e, h.some, si, sj))).0 at_q

    along_k : On (vector k) p c
    along_k = along_p p q r c i j m h at_p

    along_l : On (vector l) q c
    along_l = along_q p q r c i j m h at_q

    left : Above (cross (vector i) p c)
    left = first_left p q c i k l si (omega arith) (omega arith) h.pq (omega (arith, a.at_p, si, sm)) (omega (arith, a.at_p, si, sm)) (omega (arith, h.some, h.half, h.even_q, si, sj)) (omega (arith, h.some, h.half, h.even_q, h.even_r, a.at_p, si, sj, sm)) along_k along_l

    far_left : Above (far i p c)
    far_left = (far_above i p c).0 left

-- The foot of the incentre on the side from p to q is between p and q, so it is in the sheet.
use Rattle.std.proofs.Common.{◌≡◌, ℕ, ◌<◌, sym, ap, subst, ◌∙◌, inl, inr, arith}
use Rattle.exact.specs.Plane.{ExactPoint, vector}
use Rattle.sheet.specs.Sheet.{ExactSheet, InSheet, corner}
use Rattle.geometry.specs.Root.{plus, times, minus, Above}
use Rattle.geometry.specs.Gap.{cross, det}
use Rattle.geometry.specs.Rays.{OnRay}
use Rattle.geometry.proofs.RootRing.{plus_zero}
use Rattle.geometry.proofs.Domain.{above_times, above_not_minus, times_minus, above_not_zero}
use Rattle.geometry.proofs.Gap.{above_right, in_right}
use Rattle.geometry.proofs.Lines.{On, on_back, on_from, side_moved, chain, cross_back, weight, weight_above, right_minus, minus_minus, on_same}
use Rattle.geometry.proofs.Parallels.{dir_on, on_parallel}
use Rattle.geometry.proofs.HalfAngles.{axis, back, axis_back}
use Rattle.geometry.proofs.WayTurns.{det_left, det_right, way_right}
use Rattle.geometry.proofs.RoundTriangle.{IsCounterclockwise, HasAngles, angles, met, from_p, from_q, along_p, along_q, swap_turns}
use Rattle.geometry.proofs.HalfPlanes.{NotRight, mid_not_right}
use Rattle.geometry.proofs.RayOrder.{on_ray_or}
use Rattle.geometry.proofs.AtLeast.{not_below_zero}
use Rattle.plane.proofs.callers.Imaged.{aside}
use Rattle.plane.proofs.callers.Incentres.{IsEvenTriangle, oriented}
use Rattle.plane.proofs.callers.Walls.{sheet_is}

-- p is before f and q after it, along the line from p to q
record IsBetween (p q f : ExactPoint) (i : ℕ) : Type 0 where
  small : i < 16
  first : On (vector i) f p
  second : On (vector i) f q
  before : Above (cross (vector (aside i)) f p)
  after : Above (minus (cross (vector (aside i)) f q))

-- a quarter turn aside from a direction, its points are on the right
turned : (i : ℕ) → i < 16 → Above (minus (det (vector (aside i)) (vector i)))
turned i s = det_right (aside i) i (omega arith) s (omega arith)

-- so the ray from p leads over f to q
to_foot : (p q f : ExactPoint) (i : ℕ) → IsBetween p q f i → OnRay p i f
to_foot p q f i h = elim (on_ray_or i p f h.small (on_back (vector i) f p h.first)) [
  | inl r ↦ r
  | inr e ↦ elim e [
    | inl s ↦ absurd (above_not_zero (subst Above (on_back w p f (on_same w p f s)).on h.before))
    | inr r ↦ absurd (above_not_minus (cross w f p) h.before ((way_right w f p i r).0 (turned i h.small)))
  ]
]
  where
    w : ExactPoint
    w = vector (aside i)

from_foot : (p q f : ExactPoint) (i : ℕ) → IsBetween p q f i → OnRay f i q
from_foot p q f i h = elim (on_ray_or i f q h.small h.second) [
  | inl r ↦ r
  | inr e ↦ elim e [
    | inl s ↦ absurd (not_below_zero (cross w f q) (on_same w f q s).on h.after)
    | inr r ↦ absurd (above_not_minus (cross w q f) (subst Above (sym (cross_back w f q)) h.after) ((way_right w q f i r).0 (turned i h.small)))
  ]
]
  where
    w : ExactPoint
    w = vector (aside i)

between_in : (sheet : ExactSheet) (p q f : ExactPoint) (i : ℕ) → IsBetween p q f i → InSheet sheet p → InSheet sheet q → InSheet sheet f
between_in sheet p q f i h a b = (sheet_is sheet f).1 (record {
  low = between 0 (corner sheet 0 0) ((sheet_is sheet p).0 a).low ((sheet_is sheet q).0 b).low;
  right = between 4 (corner sheet 1 0) ((sheet_is sheet p).0 a).right ((sheet_is sheet q).0 b).right;
  high = between 8 (corner sheet 1 1) ((sheet_is sheet p).0 a).high ((sheet_is sheet q).0 b).high;
  left = between 12 (corner sheet 0 1) ((sheet_is sheet p).0 a).left ((sheet_is sheet q).0 b).left;
})
  where
    between : (j : ℕ) (o : ExactPoint) → NotRight j o p → NotRight j o q → NotRight j o f
    between j o = mid_not_right j i o p f q (to_foot p q f i h) (from_foot p q f i h)

foot_round : (p q r c f : ExactPoint) (i j m : ℕ) → IsCounterclockwise p q r i j m → On (vector (axis i (back m))) p c → On (vector (axis j (back i))) q c → On (vector i) p f → On (vector (aside i)) f c → IsBetween p q f i
foot_round p q r c f i j m h at_p at_q on up = record {
  small = si;
  first = on_back (vector i) p f on;
  second = on_from (vector i) p f q on (dir_on p q i h.pq);
  before = subst Above (sym (cross_back w p f)) (above_right _ (weight c) (weight_above c) (subst Above (right_minus _ _ ∙ ap minus (seen p) ∙ sym (right_minus _ _)) (above_times _ _ down_p (weight_above f))));
  after = subst Above (sym (ap minus (cross_back w q f) ∙ minus_minus _)) (above_right _ (weight c) (weight_above c) (subst Above (seen q) (above_times _ _ up_q (weight_above f))));
}
  where
    a : HasAngles i j m
    a = angles p q r i j m h

    si : i < 16
    si = h.i_small

    sj : j < 16
    sj = h.j_small

    sm : m < 16
    sm = h.m_small

    w : ExactPoint
    w = vector (aside i)

    k : ℕ
    k = from_p i m

    l : ℕ
    l = from_q i j

    left_p : Above (cross (vector i) p c)
    left_p = (met p q r c i j m h at_p at_q).0.pq

    left_q : Above (cross (vector i) q c)
    left_q = above_right _ (weight p) (weight_above p) (subst Above (side_moved (vector i) p q c (dir_on p q i h.pq)) (above_times _ _ left_p (weight_above q)))

    down_p : Above (minus (cross w p c))
    down_p = above_right _ (det (vector i) (vector k)) (det_left i k si (omega arith) (omega (arith, a.at_p, si, sm)) (omega (arith, a.at_p, si, sm))) (
        subst Above (times_minus _ _ ∙ ap minus (swap_turns (vector i) w (vector k) p c (along_p p q r c i j m h at_p)) ∙ sym (right_minus _ _))
        (above_times _ _ left_p (det_right (aside i) k (omega arith) (omega arith) (omega (arith, a.at_p, h.even_q, h.even_r, si, sm)))))

    up_q : Above (cross w q c)
    up_q = above_right _ (det (vector i) (vector l)) (det_left i l si (omega arith) (omega (arith, h.some, h.half, si, sj)) (omega (arith, h.some, h.half, h.even_q, si, sj))) (
        subst Above (swap_turns (vector i) w (vector l) q c (along_q p q r c i j m h at_q))
        (above_times _ _ left_q (det_left (aside i) l (omega arith) (omega arith) (omega (arith, h.some, h.half, h.even_q, si, sj)) (omega (arith, h.some, h.half, h.even_q, si, sj)))))

    -- from a point of the line, c is as far along it as f
    seen : (o : ExactPoint) → times (cross w o c) (weight f) ≡ times (cross w o f) (weight c)
    seen o = chain w o f c ∙ ap (plus (times (cross w o f) (weight c))) (in_right _ (weight o) up.on) ∙ plus_zero _

-- the foot of the point where the bisectors of p and q meet
pub foot_in : (sheet : ExactSheet) (p q r c f : ExactPoint) (i j m : ℕ) → IsEvenTriangle p q r i j m → On (vector (axis i (back m))) p c → On (vector (axis j (back i))) q c → On (vector i) p f → On (vector (aside i)) f c → InSheet sheet p → InSheet sheet q → InSheet sheet f
foot_in sheet p q r c f i j m h at_p at_q on up a b = elim (oriented p q r i j m h) [
  | inl o ↦ between_in sheet p q f i (foot_round p q r c f i j m o at_p at_q on up) a b
  | inr o ↦ between_in sheet q p f (back i) (foot_round q p r c f (back i) (back m) (back j) o
      (subst (λ z. On (vector z) q c) (axis_back i j h.j_small) at_q) (subst (λ z. On (vector z) p c) (axis_back m i h.i_small) at_p)
      (on_parallel i (back i) q f si (omega arith) (omega arith) (on_from (vector i) p q f (dir_on p q i h.pq) on))
      (on_parallel (aside i) (aside (back i)) f c (omega arith) (omega arith) (omega arith) up)) b a
]
  where
    si : i < 16
    si = h.i_small

    sj : j < 16
    sj = h.j_small

-- On which side of a line the points of a ray are.
use Rattle.std.proofs.Common.{◌≡◌, ℕ, [], ◌∷◌, refl, sym, ap, ◌∙◌, inl, inr}
use Rattle.exact.specs.Plane.{ExactPoint, vector, away}
use Rattle.geometry.specs.Root.{Root, plus, times, minus, Above}
use Rattle.geometry.specs.Gap.{num, dn, cross, det}
use Rattle.geometry.specs.Rays.{OnRay}
use Rattle.geometry.proofs.RootRing.{times_assoc, times_comm}
use Rattle.geometry.proofs.Solve.{at, add, mul, solve}
use Rattle.geometry.proofs.Domain.{above_times, sign_of}
use Rattle.geometry.proofs.Gap.{dn_above}
use Rattle.geometry.proofs.Lines.{chain, weight, weight_above, minus_zero}
use Rattle.geometry.proofs.WayTurns.{way_size, way_side}
use Rattle.geometry.proofs.AtLeast.{AtLeast, Weighed, up_first, up_second, up_both, turned}

-- how far a ray has come at one of its points
reach : (a b : ExactPoint) (k : ℕ) → OnRay a k b → Root
reach a b k h = times (num h.0) (times (dn (away a b).x) (dn (away a b).y))

reach_above : (a b : ExactPoint) (k : ℕ) (h : OnRay a k b) → Above (reach a b k h)
unfolding reach
reach_above a b k h = way_size a b k h

-- along a ray one goes to the left of direction j as its own direction does
way_cross : (j k : ℕ) (a b : ExactPoint) (h : OnRay a k b) → times (cross (vector j) a b) (dn h.0) ≡ times (det (vector j) (vector k)) (reach a b k h)
unfolding reach
way_cross j k a b h = way_side (vector j) a b k h ∙ times_comm _ _

moved_core : (x y g d wa wb wp t n : Root) → times x wa ≡ plus (times y wb) (times g wp) → times g t ≡ times d n → times x (times wa t) ≡ plus (times y (times wb t)) (times d (times n wp))
moved_core x y g d wa wb wp t n e f =
    sym (times_assoc x wa t) ∙ ap (λ z. times z t) e
    ∙ solve (y ∷ wb ∷ g ∷ wp ∷ t ∷ []) (mul (add (mul (at 0) (at 1)) (mul (at 2) (at 3))) (at 4)) (add (mul (at 0) (mul (at 1) (at 4))) (mul (mul (at 2) (at 4)) (at 3))) refl
    ∙ ap (λ z. plus (times y (times wb t)) (times z wp)) f
    ∙ ap (plus (times y (times wb t))) (times_assoc d n wp)

-- the sides of two points of a ray
pub along_ray : (j k : ℕ) (p a b : ExactPoint) → OnRay a k b → Weighed (cross (vector j) p b) (cross (vector j) p a) (det (vector j) (vector k))
along_ray j k p a b h = record {
  A = times (weight a) (dn h.0);
  B = times (weight b) (dn h.0);
  C = times (reach a b k h) (weight p);
  a = above_times (weight a) (dn h.0) (weight_above a) (dn_above h.0);
  b = above_times (weight b) (dn h.0) (weight_above b) (dn_above h.0);
  c = above_times (reach a b k h) (weight p) (reach_above a b k h) (weight_above p);
  sum = moved_core (cross (vector j) p b) (cross (vector j) p a) (cross (vector j) a b) (det (vector j) (vector k)) (weight a) (weight b) (weight p) (dn h.0) (reach a b k h) (chain (vector j) p a b) (way_cross j k a b h);
}

-- r is on the left of the line through p in direction j, or on it
abbrev pub NotRight : ℕ → ExactPoint → ExactPoint → Type 0
NotRight j p r = AtLeast (cross (vector j) p r)

-- strictly
abbrev pub IsLeft : ℕ → ExactPoint → ExactPoint → Type 0
IsLeft j p r = Above (cross (vector j) p r)

-- Between two points of a ray.
pub mid_left : (j k : ℕ) (p a m b : ExactPoint) → OnRay a k m → OnRay m k b → NotRight j p a → IsLeft j p b → IsLeft j p m
mid_left j k p a m b h l x y = elim (sign_of (det (vector j) (vector k))) [
  | inl d ↦ up_second _ _ _ (along_ray j k p a m h) x d
  | inr e ↦ up_first _ _ _ (turned _ _ _ (along_ray j k p m b l)) y (elim e [ inl z ↦ inr (ap minus z ∙ minus_zero) | inr n ↦ inl n ])
]

pub mid_left_start : (j k : ℕ) (p a m b : ExactPoint) → OnRay a k m → OnRay m k b → IsLeft j p a → NotRight j p b → IsLeft j p m
mid_left_start j k p a m b h l x y = elim (sign_of (det (vector j) (vector k))) [
  | inl d ↦ up_first _ _ _ (along_ray j k p a m h) x (inl d)
  | inr e ↦ elim e [
    | inl z ↦ up_first _ _ _ (along_ray j k p a m h) x (inr z)
    | inr n ↦ up_second _ _ _ (turned _ _ _ (along_ray j k p m b l)) y n
  ]
]

pub mid_not_right : (j k : ℕ) (p a m b : ExactPoint) → OnRay a k m → OnRay m k b → NotRight j p a → NotRight j p b → NotRight j p m
mid_not_right j k p a m b h l x y = elim (sign_of (det (vector j) (vector k))) [
  | inl d ↦ up_both _ _ _ (along_ray j k p a m h) x (inl d)
  | inr e ↦ up_both _ _ _ (turned _ _ _ (along_ray j k p m b l)) y (elim e [ inl z ↦ inr (ap minus z ∙ minus_zero) | inr n ↦ inl n ])
]

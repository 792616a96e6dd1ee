-- The order of the points of a ray.
use Rattle.std.proofs.Common.{◌≡◌, ℕ, ◌<◌, ◌≤◌, sym, subst, ◌⊎◌, inl, inr, arith}
use Rattle.std.proofs.lemmas.Bool.{cases_order}
use Rattle.std.proofs.lemmas.Int.{ints}
use Rattle.exact.specs.Number.{whole}
use Rattle.exact.specs.Plane.{ExactPoint, ExactSegment, SamePoint, OnSeg, vector}
use Rattle.geometry.specs.Rays.{OnRay, RunsAlong}
use Rattle.geometry.proofs.Lines.{On, on_trans, on_back, on_same}
use Rattle.geometry.proofs.PointOrder.{ordered, before_trans, same_before, before_same, same_itself}
use Rattle.geometry.proofs.RaySides.{dir_apart, ray_on, ray_back}
use Rattle.geometry.proofs.RayPoints.{ray_ordered}
use Rattle.geometry.proofs.Halfway.{between, ahead, ahead_on}

pub data Half (k : ℕ) : Type 0 where
  leads_on : (k < 5) ⊎ (12 < k) → Half k
  leads_back : 5 ≤ k → k ≤ 12 → Half k

pub half_of : (k : ℕ) → Half k
half_of k = elim (cases_order k 5) [
  | inl e ↦ Half.leads_back (omega (arith, e)) (omega (arith, e))
  | inr n ↦ elim n [
    | inl l ↦ Half.leads_on (inl l)
    | inr g ↦ elim (cases_order k 12) [
      | inl e ↦ Half.leads_back (omega (arith, e)) (omega (arith, e))
      | inr m ↦ elim m [ inl l ↦ Half.leads_back (omega (arith, g)) (omega (arith, l)) | inr h ↦ Half.leads_on (inr h) ]
    ]
  ]
]

-- the points of the line of a ray
pub on_ray_or : (k : ℕ) (a b : ExactPoint) → k < 16 → On (vector k) a b → OnRay a k b ⊎ (SamePoint a b ⊎ OnRay b k a)
on_ray_or k a b small h = elim (half_of k) [
  | Half.leads_on half ↦ elim (ordered a b) [
    | inl x ↦ inl ((ray_on a b k small half).1 (h, x))
    | inr y ↦ elim y [ inl s ↦ inr (inl s) | inr z ↦ inr (inr ((ray_on b a k small half).1 (on_back (vector k) a b h, z))) ]
  ]
  | Half.leads_back low high ↦ elim (ordered a b) [
    | inl x ↦ inr (inr ((ray_back b a k low high).1 (on_back (vector k) a b h, x)))
    | inr y ↦ elim y [ inl s ↦ inr (inl s) | inr z ↦ inl ((ray_back a b k low high).1 (h, z)) ]
  ]
]

pub ray_trans : (k : ℕ) (a b c : ExactPoint) → k < 16 → OnRay a k b → OnRay b k c → OnRay a k c
ray_trans k a b c small h l = elim (half_of k) [
  | Half.leads_on half ↦ (let x = (ray_on a b k small half).0 h in let y = (ray_on b c k small half).0 l in (ray_on a c k small half).1 (on_trans (vector k) a b c x.0 y.0, before_trans a b c x.1 y.1))
  | Half.leads_back low high ↦ (let x = (ray_back a b k low high).0 h in let y = (ray_back b c k low high).0 l in (ray_back a c k low high).1 (on_trans (vector k) a b c x.0 y.0, before_trans c b a y.1 x.1))
]

pub ray_to_same : (k : ℕ) (a b c : ExactPoint) → k < 16 → OnRay a k b → SamePoint b c → OnRay a k c
ray_to_same k a b c small h s = elim (half_of k) [
  | Half.leads_on half ↦ (let x = (ray_on a b k small half).0 h in (ray_on a c k small half).1 (on_trans (vector k) a b c x.0 (on_same (vector k) b c s), before_same a b c s x.1))
  | Half.leads_back low high ↦ (let x = (ray_back a b k low high).0 h in (ray_back a c k low high).1 (on_trans (vector k) a b c x.0 (on_same (vector k) b c s), same_before b c a s x.1))
]

pub ray_not_itself : (k : ℕ) (a : ExactPoint) → k < 16 → ¬ OnRay a k a
ray_not_itself k a small h = dir_apart a a k small h (same_itself a)

pub ray_not_back : (k : ℕ) (a b : ExactPoint) → k < 16 → OnRay a k b → ¬ OnRay b k a
ray_not_back k a b small h l = ray_not_itself k a small (ray_trans k a b a small h l)

-- m is e, or comes before it
abbrev pub NotAfter : ℕ → ExactPoint → ExactPoint → Type 0
NotAfter k m e = (m ≡ e) ⊎ OnRay m k e

pub not_after_trans : (k : ℕ) (a b c : ExactPoint) → k < 16 → NotAfter k a b → NotAfter k b c → NotAfter k a c
not_after_trans k a b c small h l = elim h [
  | inl e ↦ subst (λ z. NotAfter k z c) (sym e) l
  | inr r ↦ elim l [ inl e ↦ inr (subst (OnRay a k) e r) | inr q ↦ inr (ray_trans k a b c small r q) ]
]

pub not_after_not : (k : ℕ) (m e : ExactPoint) → k < 16 → NotAfter k m e → ¬ OnRay e k m
not_after_not k m e small h l = elim h [ inl q ↦ ray_not_itself k e small (subst (OnRay e k) q l) | inr r ↦ ray_not_back k m e small r l ]

-- each ray has a point
pub some_point : (start : ExactPoint) (k : ℕ) → (e : ExactPoint) × OnRay start k e
some_point start k = (ahead start k (whole 1), ahead_on start k (whole 1) (inl (omega (arith, ints), omega (arith, ints), omega (arith, ints))))

-- what runs along a ray has a point before each point of the ray
pub runs_early : (start v : ExactPoint) (k : ℕ) (s : ExactSegment) → k < 16 → RunsAlong start k s → OnRay start k v → (m : ExactPoint) × OnRay start k m × OnRay m k v × OnSeg m s
runs_early start v k s small h ray = elim (ray_ordered start h.0 v k h.1 ray) [
  | inl before ↦ (h.0, h.1, before, h.2 h.0 h.1 (ray_not_itself k h.0 small))
  | inr other ↦ (let m = between start v k ray in (m.0, m.1, m.2, h.2 m.0 m.1 (λ x. later other (ray_trans k h.0 m.0 v small x m.2))))
]
  where
    later : SamePoint h.0 v ⊎ OnRay v k h.0 → ¬ OnRay h.0 k v
    later (inl s) r = dir_apart h.0 v k small r s
    later (inr b) r = ray_not_back k h.0 v small r b

-- and one on the ray
pub runs_on_it : (start : ExactPoint) (k : ℕ) (s : ExactSegment) → k < 16 → RunsAlong start k s → (e : ExactPoint) × OnRay start k e × OnSeg e s
runs_on_it start k s small h = (h.0, h.1, h.2 h.0 h.1 (ray_not_itself k h.0 small))

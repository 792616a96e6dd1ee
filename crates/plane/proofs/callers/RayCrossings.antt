-- Where a ray crosses a line, and how long it stays on the line's left.
use Rattle.std.proofs.Common.{◌≡◌, ◌≢◌, ℕ, ◌%◌, ◌<◌, refl, sym, ap, subst, ◌∙◌, ◌⊎◌, inl, inr, arith}
use Rattle.exact.specs.Plane.{ExactPoint, vector}
use Rattle.geometry.specs.Root.{minus, count, Above}
use Rattle.geometry.specs.Gap.{cross, det}
use Rattle.geometry.specs.Rays.{OnRay}
use Rattle.geometry.proofs.Domain.{above_not_minus, sign_of}
use Rattle.geometry.proofs.Lines.{On, on_trans, on_back, on_same, minus_zero}
use Rattle.geometry.proofs.AtLeast.{not_below_zero, not_above_zero, up_first, up_second, turned}
use Rattle.geometry.proofs.RayOrder.{on_ray_or, ray_trans, NotAfter}
use Rattle.geometry.proofs.RayPoints.{ray_ordered}
use Rattle.geometry.proofs.Halfway.{between}
use Rattle.geometry.proofs.WayTurns.{det_none}
use Rattle.geometry.proofs.HalfPlanes.{along_ray, NotRight, IsLeft, mid_left, mid_left_start, mid_not_right}
use Rattle.plane.specs.Walls.{LeadsLeft}
use Rattle.plane.proofs.callers.Crossed.{crossing, crossing_itself}

-- directions that turn from one another are not parallel
pub apart : (j k : ℕ) → j < 16 → k < 16 → det (vector j) (vector k) ≢ count 0 → k % 8 ≢ j % 8
apart j k hj hk n e = n (det_none j k hj hk (omega (arith, e)))

-- A ray from the left of a line, with a direction to its right, crosses it.
pub crosses : (j k : ℕ) (p a : ExactPoint) → j < 16 → k < 16 → IsLeft j p a → Above (minus (det (vector j) (vector k))) → (c : ExactPoint) × OnRay a k c × On (vector j) p c
crosses j k p a hj hk x d = (c, ahead, on.1)
  where
    not_zero : det (vector j) (vector k) ≢ count 0
    not_zero e = not_below_zero (det (vector j) (vector k)) e d

    c : ExactPoint
    c = crossing k j a p

    on : On (vector k) a c × On (vector j) p c
    on = crossing_itself k j a p hk hj (apart j k hj hk not_zero)

    ahead : OnRay a k c
    ahead = elim (on_ray_or k a c hk on.0) [
      | inl r ↦ r
      | inr e ↦ elim e [
        | inl s ↦ absurd (not_above_zero (cross (vector j) p a) (on_trans (vector j) p c a on.1 (on_back (vector j) a c (on_same (vector j) a c s))).on x)
        | inr r ↦ absurd (not_above_zero (cross (vector j) p c) on.1.on (up_first _ _ _ (turned _ _ _ (along_ray j k p c a r)) x (inl d)))
      ]
    ]

-- It does so before each of its points on the right.
pub cut : (j k : ℕ) (p a b : ExactPoint) → j < 16 → k < 16 → IsLeft j p a → OnRay a k b → Above (minus (cross (vector j) p b)) → (c : ExactPoint) × OnRay a k c × OnRay c k b × On (vector j) p c
cut j k p a b hj hk x h y = (c.0, c.1, before, c.2)
  where
    down : Above (minus (det (vector j) (vector k)))
    down = elim (sign_of (det (vector j) (vector k))) [
      | inl d ↦ absurd (above_not_minus _ (up_first _ _ _ (along_ray j k p a b h) x (inl d)) y)
      | inr e ↦ elim e [ inl z ↦ absurd (above_not_minus _ (up_first _ _ _ (along_ray j k p a b h) x (inr z)) y) | inr n ↦ n ]
    ]

    c : (c : ExactPoint) × OnRay a k c × On (vector j) p c
    c = crosses j k p a hj hk x down

    right : NotRight j p b → ⊥
    right (inl l) = above_not_minus _ l y
    right (inr z) = not_below_zero _ z y

    before : OnRay c.0 k b
    before = elim (ray_ordered a c.0 b k c.1 h) [
      | inl r ↦ r
      | inr e ↦ elim e [
        | inl s ↦ absurd (right (inr (on_trans (vector j) p c.0 b c.2 (on_same (vector j) c.0 b s)).on))
        | inr r ↦ absurd (right (mid_not_right j k p a b c.0 h r (inl x) (inr c.2.on)))
      ]
    ]

-- Of a ray that leads to the left of a line: each of its points in front of one on the left is there too.
pub leads_not_right : (j k : ℕ) (p a : ExactPoint) → LeadsLeft a k j p → NotRight j p a
leads_not_right j k p a h = elim h [ inl x ↦ inl x | inr x ↦ inr x.0 ]

pub keeps_left : (j k : ℕ) (p a m e : ExactPoint) → LeadsLeft a k j p → OnRay a k m → NotAfter k m e → IsLeft j p e → IsLeft j p m
keeps_left j k p a m e h ray before x = elim before [
  | inl q ↦ subst (IsLeft j p) (sym q) x
  | inr l ↦ mid_left j k p a m e ray l (leads_not_right j k p a h) x
]

pub keeps_not_right : (j k : ℕ) (p a m e : ExactPoint) → LeadsLeft a k j p → OnRay a k m → NotAfter k m e → NotRight j p e → NotRight j p m
keeps_not_right j k p a m e h ray before x = elim before [
  | inl q ↦ subst (NotRight j p) (sym q) x
  | inr l ↦ mid_not_right j k p a m e ray l (leads_not_right j k p a h) x
]

-- In front of each of its points there is one that is not on the right: that point, or one on the line.
pub to_line : (j k : ℕ) (p a e : ExactPoint) → j < 16 → k < 16 → LeadsLeft a k j p → OnRay a k e → (m : ExactPoint) × OnRay a k m × NotAfter k m e × NotRight j p m × ((m ≡ e) ⊎ On (vector j) p m)
to_line j k p a e hj hk h ray = elim (sign_of (cross (vector j) p e)) [
  | inl x ↦ (e, ray, inl refl, inl x, inl refl)
  | inr y ↦ elim y [
    | inl z ↦ (e, ray, inl refl, inr z, inl refl)
    | inr n ↦ elim h [
      | inl x ↦ (let c = cut j k p a e hj hk x ray n in (c.0, c.1, inr c.2, inr c.3.on, inr c.3))
      | inr x ↦ absurd (above_not_minus _ (up_second _ _ _ (along_ray j k p a e ray) (inr x.0) x.1) n)
    ]
  ]
]

-- and one on the left
pub to_left : (j k : ℕ) (p a e : ExactPoint) → j < 16 → k < 16 → LeadsLeft a k j p → OnRay a k e → (m : ExactPoint) × OnRay a k m × NotAfter k m e × IsLeft j p m
to_left j k p a e hj hk h ray = elim h [
  | inr x ↦ (e, ray, inl refl, up_second _ _ _ (along_ray j k p a e ray) (inr x.0) x.1)
  | inl x ↦ elim (sign_of (cross (vector j) p e)) [
    | inl y ↦ (e, ray, inl refl, y)
    | inr y ↦ elim y [
      | inl z ↦ (let m = between a e k ray in (m.0, m.1, inr m.2, mid_left_start j k p a m.0 e m.1 m.2 x (inr z)))
      | inr n ↦ (let c = cut j k p a e hj hk x ray n in let m = between a c.0 k c.1 in
          (m.0, m.1, inr (ray_trans k m.0 c.0 e hk m.2 c.2), mid_left_start j k p a m.0 c.0 m.1 m.2 x (inr c.3.on)))
    ]
  ]
]

-- A ray from a point that is not on the right leads to the left, or has no point on the left.
pub left_or_not : (j k : ℕ) (p a : ExactPoint) → NotRight j p a → LeadsLeft a k j p ⊎ ((r : ExactPoint) → OnRay a k r → ¬ IsLeft j p r)
left_or_not j k p a h = elim h [
  | inl x ↦ inl (inl x)
  | inr z ↦ elim (sign_of (det (vector j) (vector k))) [
    | inl d ↦ inl (inr (z, d))
    | inr e ↦ inr (λ r ray x. not_above_zero (cross (vector j) p a) z (up_first _ _ _ (turned _ _ _ (along_ray j k p a r ray)) x (elim e [ inl n ↦ inr (ap minus n ∙ minus_zero) | inr n ↦ inl n ])))
  ]
]

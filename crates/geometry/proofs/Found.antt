-- The direction from one point to another: which one it is, and that there is no other.
use Rattle.std.proofs.Common.{◌≡◌, ℕ, ◌%◌, ◌<◌, [], ◌∷◌, refl, sym, ◌∙◌, ◌⊎◌, inl, inr, arith}
use Rattle.std.specs.Prelude.{◌↔◌}
use Rattle.std.proofs.lemmas.Bool.{cases_order}
use Rattle.exact.specs.Number.{ExactNumber, sub, mul as mul_exact}
use Rattle.exact.specs.Plane.{ExactPoint, Before, ExactSegment, IsSegment, vector, away, turn, IsZero}
use Rattle.geometry.specs.Gap.{num, dn, gx, gy, cross, det, Ahead, IsWhole}
use Rattle.geometry.specs.Meeting.{Along}
use Rattle.geometry.proofs.Gap.{num_sub, num_mul, dn_mul, dn_whole, dn_one, turn_num, zero_num}
use Rattle.geometry.proofs.RootRing.{times_comm}
use Rattle.geometry.proofs.Solve.{at, one, add, mul, opp, solve}
use Rattle.geometry.proofs.Directions.{vector_whole, unit_at, right_half, one_direction, not_parallel}
use Rattle.geometry.proofs.Lines.{On, one_point}
use Rattle.geometry.proofs.Segments.{ahead, end_on}
use Rattle.geometry.proofs.Parts.{way}
use Rattle.geometry.proofs.PointOrder.{before_not_same}

-- the turn from a whole vector to the way from p to r is the side of r
pub turn_cross : (v p r : ExactPoint) → IsWhole v → num (turn v (away p r)) ≡ cross v p r
unfolding cross gx gy
turn_cross v p r w =
    num_sub (mul_exact v.x (sub r.y p.y)) (mul_exact v.y (sub r.x p.x))
    ∙ rw (num_mul v.x (sub r.y p.y), num_mul v.y (sub r.x p.x), left v.y (sub r.x p.x) w.y, left v.x (sub r.y p.y) w.x)
    (solve (num v.x ∷ num v.y ∷ num (sub r.x p.x) ∷ num (sub r.y p.y) ∷ dn (sub r.x p.x) ∷ dn (sub r.y p.y) ∷ [])
    (add (mul (mul (at 0) (at 3)) (at 4)) (opp (mul (mul (at 1) (at 2)) (at 5))))
    (add (mul (at 0) (mul (at 3) (at 4))) (opp (mul (at 1) (mul (at 2) (at 5))))) refl)
  where
    left : (v x : ExactNumber) → v.d ≡ 1 → dn (mul_exact v x) ≡ dn x
    left v x e = dn_mul v x ∙ times_comm (dn v) (dn x) ∙ sym (dn_mul x v) ∙ dn_whole x v e

-- the turn between two whole vectors
pub turn_det : (u w : ExactPoint) → IsWhole u → IsWhole w → num (turn u w) ≡ det u w
unfolding det
turn_det u w a b =
    turn_num u w
    ∙ rw (dn_one u.x a.x, dn_one u.y a.y, dn_one w.x b.x, dn_one w.y b.y)
    (solve (num u.x ∷ num u.y ∷ num w.x ∷ num w.y ∷ [])
    (add (mul (mul (at 0) (at 3)) (mul one one)) (opp (mul (mul (at 1) (at 2)) (mul one one))))
    (add (mul (at 0) (at 3)) (opp (mul (at 1) (at 2)))) refl)

-- r is on the line through p in direction k
pub turn_on : (k : ℕ) (p r : ExactPoint) → IsZero (turn (vector k) (away p r)) ↔ On (vector k) p r
turn_on k p r = (
  λ z. record { on = sym (turn_cross (vector k) p r (vector_whole k)) ∙ (zero_num (turn (vector k) (away p r))).0 z },
  λ h. (zero_num (turn (vector k) (away p r))).1 (turn_cross (vector k) p r (vector_whole k) ∙ h.on),
)

-- a later point on the line of direction k, which points ahead
pub on_along : (s : ExactSegment) (k : ℕ) → k < 16 → Ahead (num (vector k).x) (num (vector k).y) → Before s.p s.q → On (vector k) s.p s.q → Along s k
on_along s k h a b o = record { small = h; ordered = b; dir = way (vector k) s.p s.q (vector_whole k) (unit_at k h) a o b }

-- a segment has one direction
pub one_along : (s : ExactSegment) (k j : ℕ) → Along s k → Along s j → k ≡ j
one_along s k j a b = elim (parallel_or_not (k % 8) (j % 8)) [
  | inl e ↦ one_direction k j a.small b.small (right_half k a.small (ahead s k a)) (right_half j b.small (ahead s j b)) e
  | inr n ↦ absurd (before_not_same s.p s.q a.ordered (one_point (vector k) (vector j) s.p s.q (not_parallel k j a.small b.small n) (end_on s k a) (end_on s j b)))
]
  where
    parallel_or_not : (a b : ℕ) → (a ≡ b) ⊎ (a ≡ b → ⊥)
    parallel_or_not a b = elim (cases_order a b) [ inl e ↦ inl e | inr k ↦ inr (λ e. elim k [ inl l ↦ omega (arith, e, l) | inr g ↦ omega (arith, e, g) ]) ]

pub along_of : (s : ExactSegment) → IsSegment s → (k : ℕ) × Along s k
along_of s h = (h.1.0, record { small = h.1.1; ordered = h.0; dir = h.1.2 })

pub along_half : (s : ExactSegment) (k : ℕ) → Along s k → (k < 5) ⊎ (12 < k)
along_half s k a = right_half k a.small (ahead s k a)

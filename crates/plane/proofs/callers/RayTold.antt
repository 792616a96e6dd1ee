-- What tests of a point tell of whether it is on a ray.
use Rattle.std.specs.Prelude.{◌↔◌}
use Rattle.std.proofs.Common.{◌≡◌, ℕ, ◌<◌, ◌≤◌, Bool, IsTrue, refl, subst, ◌⊎◌, inl, inr, arith}
use Rattle.exact.specs.Plane.{ExactPoint, Before, vector, turn}
use Rattle.qroot2.specs.declared.sign.Sign.{Sign}
use Rattle.qroot2.specs.Wide.{Pair, pair_number, HasSign}
use Rattle.qroot2.specs.declared.sign.Sign.TheVariants as sign
use Rattle.geometry.specs.Root.{Root, minus, count, Above}
use Rattle.geometry.specs.Gap.{cross, det}
use Rattle.geometry.specs.Rays.{OnRay}
use Rattle.geometry.proofs.RootRing.{both}
use Rattle.geometry.proofs.Domain.{above_not_minus}
use Rattle.geometry.proofs.Lines.{On}
use Rattle.geometry.proofs.Parallels.{dir_on}
use Rattle.geometry.proofs.RaySides.{ray_on, ray_back}
use Rattle.geometry.proofs.AtLeast.{not_below_zero, not_above_zero}
use Rattle.plane.specs.Sides.{IsSide}
use Rattle.plane.specs.Walls.{FirstIsPlus}
use Rattle.plane.proofs.callers.Turns.{side_cross}
use Rattle.plane.proofs.callers.Crossed.{det_told}

-- the signs of a number
pub sign_zero : (f : Root) → HasSign f.a f.b sign.Zero → f ≡ count 0
unfolding count
sign_zero f h = both f (count 0) h.0 h.1

pub sign_minus : (f : Root) → HasSign f.a f.b sign.Minus → Above (minus f)
unfolding minus
sign_minus f h = h

pub plus_told : (f g : Root) (s t : Sign) → HasSign f.a f.b s → HasSign g.a g.b t → FirstIsPlus s t ↔ (Above f ⊎ ((f ≡ count 0) × Above g))
plus_told f g sign.Minus t h k = (λ u. absurd u, λ x. elim x [ inl y ↦ above_not_minus f y (sign_minus f h) | inr y ↦ not_below_zero f y.0 (sign_minus f h) ])
plus_told f g sign.Zero sign.Minus h k = (λ u. absurd u, λ x. elim x [ inl y ↦ not_above_zero f (sign_zero f h) y | inr y ↦ above_not_minus g y.1 (sign_minus g k) ])
plus_told f g sign.Zero sign.Zero h k = (λ u. absurd u, λ x. elim x [ inl y ↦ not_above_zero f (sign_zero f h) y | inr y ↦ not_above_zero g (sign_zero g k) y.1 ])
plus_told f g sign.Zero sign.Plus h k = (λ u. inr (sign_zero f h, k), λ x. tt)
plus_told f g sign.Plus t h k = (λ u. inl h, λ x. tt)

-- the sign of a turn of directions
pub det_sign : (k j : ℕ) (d : Pair) (s : Sign) → pair_number d ≡ turn (vector j) (vector k) → HasSign d.a d.b s → HasSign (det (vector j) (vector k)).a (det (vector j) (vector k)).b s
det_sign k j d s e h = subst (λ (r : Root). HasSign r.a r.b s) (det_told k j d e) h

pub on_line : (start r : ExactPoint) (k : ℕ) → IsSide start k r sign.Zero → On (vector k) start r
on_line start r k h = record { on = sign_zero (cross (vector k) start r) (side_cross k start r sign.Zero h) }

-- beside the line
pub off_line : (start r : ExactPoint) (k : ℕ) (s : Sign) → IsSide start k r s → ¬ (s ≡ sign.Zero) → ¬ OnRay start k r
off_line start r k sign.Minus h n ray = not_below_zero (cross (vector k) start r) (dir_on start r k ray).on (sign_minus (cross (vector k) start r) (side_cross k start r sign.Minus h))
off_line start r k sign.Zero h n ray = n refl
off_line start r k sign.Plus h n ray = not_above_zero (cross (vector k) start r) (dir_on start r k ray).on (side_cross k start r sign.Plus h)

pub on_told : (start r : ExactPoint) (k : ℕ) (b : Bool) → k < 16 → (k < 5) ⊎ (12 < k) → On (vector k) start r → IsTrue b ↔ Before start r → IsTrue b ↔ OnRay start k r
on_told start r k b small half on t = (λ h. (ray_on start r k small half).1 (on, t.0 h), λ h. t.1 ((ray_on start r k small half).0 h).1)

pub back_told : (start r : ExactPoint) (k : ℕ) (b : Bool) → 5 ≤ k → k ≤ 12 → On (vector k) start r → IsTrue b ↔ Before r start → IsTrue b ↔ OnRay start k r
back_told start r k b low high on t = (λ h. (ray_back start r k low high).1 (on, t.0 h), λ h. t.1 ((ray_back start r k low high).0 h).1)

-- the directions that do not lead on
pub half_low : (k : ℕ) → k < 16 → ¬ ((k < 5) ⊎ (12 < k)) → 5 ≤ k
half_low k small n = omega (arith, λ (h : k < 5). n (inl h))

pub half_high : (k : ℕ) → k < 16 → ¬ ((k < 5) ⊎ (12 < k)) → k ≤ 12
half_high k small n = omega (arith, λ (h : 12 < k). n (inr h))

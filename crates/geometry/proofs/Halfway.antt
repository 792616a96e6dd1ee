-- Between the start of a ray and each of its points there is another one.
use Rattle.std.proofs.Common.{◌≡◌, ℕ, ◌*◌, max, [], ◌∷◌, refl, sym, ap, subst, ◌∙◌, arith}
use Rattle.exact.specs.Number.{ExactNumber, Same, Less, Positive, den, sub, neg, mul as mul_exact}
use Rattle.exact.specs.Plane.{ExactPoint, vector}
use Rattle.geometry.specs.Root.{plus, times, count, Above}
use Rattle.geometry.specs.Gap.{num, dn}
use Rattle.geometry.specs.Rays.{OnRay}
use Rattle.geometry.proofs.Domain.{above_times}
use Rattle.geometry.proofs.Solve.{at, one, add, mul, opp, solve}
use Rattle.geometry.proofs.Gap.{dn_above, num_sub, dn_sub, num_same, less_num, above_num, count_product}
use Rattle.geometry.proofs.Parts.{num_neg, dn_neg}
use Rattle.geometry.proofs.RayPoints.{comes_after}

unfoldable half : ExactNumber → ExactNumber
half t = record { a = t.a; b = t.b; d = 2 * den t }

num_half : (t : ExactNumber) → num (half t) ≡ num t
unfolding num half
num_half t = refl

dn_half : (t : ExactNumber) → dn (half t) ≡ times (count 2) (dn t)
unfolding dn half
dn_half t = ap count (let e : max 1 (2 * den t) ≡ 2 * den t = omega arith in e) ∙ count_product 2 (den t)

half_less : (t : ExactNumber) → Above (num t) → Less (half t) t
unfolding count plus times
half_less t h = (less_num (half t) t).1 (subst Above (sym (
    num_sub t (half t) ∙ rw (num_half t, dn_half t) (solve (num t ∷ dn t ∷ [])
    (add (mul (at 0) (mul (add one one) (at 1))) (opp (mul (at 0) (at 1)))) (mul (at 0) (at 1)) refl)))
    (above_times (num t) (dn t) h (dn_above t)))

-- what was added to a is the way from there
added : (a n : ExactNumber) → Same (sub (sub a (neg n)) a) n
added a n = num_same (sub (sub a (neg n)) a) n (
    rw (num_sub (sub a (neg n)) a, dn_sub (sub a (neg n)) a, num_sub a (neg n), dn_sub a (neg n), num_neg n, dn_neg n)
    (solve (num a ∷ dn a ∷ num n ∷ dn n ∷ [])
    (mul (add (mul (add (mul (at 0) (at 3)) (opp (mul (opp (at 2)) (at 1)))) (at 1)) (opp (mul (at 0) (mul (at 1) (at 3))))) (at 3))
    (mul (at 2) (mul (mul (at 1) (at 3)) (at 1))) refl))

-- the point that is t times the vector of a direction away from the start
pub ahead : (start : ExactPoint) (k : ℕ) (t : ExactNumber) → ExactPoint
ahead start k t = record { x = sub start.x (neg (mul_exact t (vector k).x)); y = sub start.y (neg (mul_exact t (vector k).y)) }

pub ahead_on : (start : ExactPoint) (k : ℕ) (t : ExactNumber) → Positive t.a t.b → OnRay start k (ahead start k t)
unfolding ahead
ahead_on start k t h = (t, h, record { x = added start.x (mul_exact t (vector k).x); y = added start.y (mul_exact t (vector k).y) })

halfway : (start : ExactPoint) (k : ℕ) (t : ExactNumber) → ExactPoint
halfway start k t = ahead start k (half t)

halfway_on : (start : ExactPoint) (k : ℕ) (t : ExactNumber) → Positive t.a t.b → OnRay start k (halfway start k t)
unfolding half halfway
halfway_on start k t h = ahead_on start k (half t) h

half_is : (start : ExactPoint) (k : ℕ) (t : ExactNumber) (h : Positive t.a t.b) → (halfway_on start k t h).0 ≡ half t
unfolding halfway_on ahead_on
half_is start k t h = refl

-- a point of the ray that the given one comes after
pub between : (start e : ExactPoint) (k : ℕ) → OnRay start k e → (m : ExactPoint) × OnRay start k m × OnRay m k e
between start e k h =
    let on = halfway_on start k h.0 h.1 in
    (halfway start k h.0, on, comes_after start (halfway start k h.0) e k on h (subst (λ z. Less z h.0) (sym (half_is start k h.0 h.1)) (half_less h.0 (above_num h.0 h.1))))

-- The way from one point to another, over a common denominator, and which side of a line a point is on.
use Rattle.std.specs.Prelude.{◌≡◌, ◌⊎◌, ℤ, pos, negsuc, neg_ℤ, ◌+ℤ◌, ◌*ℤ◌}
use Rattle.exact.specs.Number.{ExactNumber, den, sub}
use Rattle.exact.specs.Plane.{ExactPoint}
use Rattle.geometry.specs.Root.{Root, plus, times, minus, count, Above}

-- the numerator
unfoldable pub num : ExactNumber → Root
num x = record { a = x.a; b = x.b }

-- the denominator
unfoldable pub dn : ExactNumber → Root
dn x = count (den x)

-- from p to r, over the product of the four denominators
unfoldable pub gx : ExactPoint → ExactPoint → Root
gx p r = times (num (sub r.x p.x)) (dn (sub r.y p.y))

unfoldable pub gy : ExactPoint → ExactPoint → Root
gy p r = times (num (sub r.y p.y)) (dn (sub r.x p.x))

-- zero where r is on the line through p along v, above zero on its left
unfoldable pub cross : ExactPoint → ExactPoint → ExactPoint → Root
cross v p r = plus (times (num v.x) (gy p r)) (minus (times (num v.y) (gx p r)))

-- the turn from w to v
unfoldable pub det : ExactPoint → ExactPoint → Root
det w v = plus (times (num w.x) (num v.y)) (minus (times (num w.y) (num v.x)))

-- points to the right, or straight up
abbrev pub Ahead : Root → Root → Type 0
Ahead x y = Above x ⊎ ((x ≡ count 0) × Above y)

-- a vector of whole numbers
pub record IsWhole (v : ExactPoint) : Type 0 where
  pub x : v.x.d ≡ 1
  pub y : v.y.d ≡ 1

-- The norm, and what a number is multiplied by to become its norm's size.
abbrev pub norm : Root → ℤ
norm x = x.a *ℤ x.a +ℤ neg_ℤ (pos 2 *ℤ (x.b *ℤ x.b))

abbrev pub signed_as : ℤ → Root → Root
signed_as (pos n) x = x
signed_as (negsuc n) x = minus x

abbrev pub partner : Root → Root
partner x = signed_as (norm x) (record { a = x.a; b = neg_ℤ x.b })

-- Denominators that points have in common, and points that are small over one.
use Rattle.std.specs.Prelude.{ℕ, ◌<◌, ◌≤◌, ◌^◌, ℤ, unsigned_abs}
use Rattle.std.specs.Int.{◌∣◌}
use Rattle.exact.specs.Number.{ExactNumber, Same}
use Rattle.exact.specs.Plane.{ExactPoint}

-- m is a multiple of d and of both denominators of p
pub record IsCommon (d : ℕ) (p : ExactPoint) (m : ℕ) : Type 0 where
  pub some : 0 < m
  pub multiple : d ∣ m
  pub x : p.x.d ∣ m
  pub y : p.y.d ∣ m

-- a number is a small numerator over d
pub record IsSmallOver (d : ℕ) (n : ExactNumber) : Type 0 where
  pub a : ℤ
  pub b : ℤ
  pub same : Same n (record { a = a; b = b; d = d })
  pub a_within : unsigned_abs a ≤ 2 ^ 36
  pub b_within : unsigned_abs b ≤ 2 ^ 36

-- both coordinates of a point are small over d, which is small
pub record IsSmall (d : ℕ) (p : ExactPoint) : Type 0 where
  pub some : 0 < d
  pub limit : d ≤ 2 ^ 17
  pub x : IsSmallOver d p.x
  pub y : IsSmallOver d p.y

-- Exact points, cut to decimals.
use Rattle.std.specs.Prelude.{ℕ, pos, ◌+ℤ◌, List}
use Rattle.std.specs.List.{AllZip}
use Rattle.exact.specs.Number.{whole, mul}
use Rattle.exact.specs.Plane.{ExactPoint}
use Rattle.exact.specs.Floor.{IsFloor}
use Rattle.decimals.specs.declared.point.DecimalPoint.{DecimalPoint}

-- each coordinate of q is the whole part of scale times that of p, less origin
pub record IsDecimalPoint (scale origin : ℕ) (p : ExactPoint) (q : DecimalPoint) : Type 0 where
  pub x : IsFloor (mul (whole scale) p.x) (q.x +ℤ pos origin)
  pub y : IsFloor (mul (whole scale) p.y) (q.y +ℤ pos origin)

-- the same of the points of two lists, place by place
abbrev pub AreDecimalPoints : ℕ → ℕ → List ExactPoint → List DecimalPoint → Type 0
AreDecimalPoints scale origin = AllZip (IsDecimalPoint scale origin)

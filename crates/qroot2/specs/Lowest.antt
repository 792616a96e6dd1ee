-- Numbers of any size in lowest terms.
use Rattle.std.specs.Prelude.{◌<◌}
use Rattle.exact.specs.Number.{ExactNumber, IsLowest}

-- the denominator is above zero, and no whole number above 1 divides all three
pub record IsInLowestTerms (x : ExactNumber) : Type 0 where
  pub positive : 0 < x.d
  pub lowest : IsLowest x

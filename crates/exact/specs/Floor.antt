-- The whole part of an exact number.
use Rattle.std.specs.Prelude.{ℤ, pos, ◌+ℤ◌}
use Rattle.exact.specs.Number.{ExactNumber, AtMost, Less}

-- a whole number, of either sign
abbrev pub integer : ℤ → ExactNumber
integer k = record { a = k; b = pos 0; d = 1 }

-- k is the one whole number with k ≤ x < k + 1
pub record IsFloor (x : ExactNumber) (k : ℤ) : Type 0 where
  pub below : AtMost (integer k) x
  pub above : Less x (integer (k +ℤ pos 1))

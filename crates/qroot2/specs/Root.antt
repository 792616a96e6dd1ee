-- Whole parts of multiples of √2.
use Rattle.std.specs.Prelude.{◌≡◌, ℕ, ◌+◌, ◌*◌, ◌≤◌, ◌⊎◌, ℤ, pos, neg_ℤ, ◌+ℤ◌}
use Rattle.exact.specs.Number.{Positive}

-- whole is the whole part of the root of 2 b^2, which is b √2, and rest what its square lacks
pub record IsRootOf (b whole rest : ℕ) : Type 0 where
  pub square : whole * whole + rest ≡ 2 * (b * b)
  pub small : rest ≤ 2 * whole

-- l ≤ b √2 < l + 1
pub record IsRootPart (b l : ℤ) : Type 0 where
  pub below : Positive (neg_ℤ l) b ⊎ ((l ≡ pos 0) × (b ≡ pos 0))
  pub above : Positive (l +ℤ pos 1) (neg_ℤ b)

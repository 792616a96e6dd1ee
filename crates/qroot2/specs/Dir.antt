-- Directions as numbers of units of 22.5 degrees.
use Rattle.std.specs.Prelude.{◌≡◌, ℕ, ◌+◌, ◌/◌, ◌%◌, ◌≤◌}

-- n of 1 to 16 is the angle counterclockwise from the first direction to the second
pub record IsAngle (first second n : ℕ) : Type 0 where
  pub some : 1 ≤ n
  pub small : n ≤ 16
  pub leads : (first + n) % 16 ≡ second

-- d is halfway from the first direction to the second, an even angle
abbrev pub IsMiddle : ℕ → ℕ → ℕ → Type 0
IsMiddle first second d = (n : ℕ) × IsAngle first second n × (n % 2 ≡ 0) × (d ≡ (first + n / 2) % 16)

-- the angle from the first direction to the second is odd
abbrev pub HasOddAngle : ℕ → ℕ → Type 0
HasOddAngle first second = (n : ℕ) × IsAngle first second n × (n % 2 ≡ 1)

-- What bringing a triple to lowest terms gives.
use Rattle.std.specs.Prelude.{◌≡◌, ℕ, ◌*◌, ◌%◌, ◌<◌, ℤ, pos, negsuc, neg_ℤ}
use Rattle.std.specs.Int.{◌∣◌}

-- a size with the sign of a number
abbrev pub signed : ℤ → ℕ → ℤ
signed (pos n) size = pos size
signed (negsuc n) size = neg_ℤ (pos size)

-- a, b, d are x, y, z times one number, and x, y, z are in lowest terms
pub record Reduces (a b d x y z : ℕ) : Type 0 where
  pub factor : (g : ℕ) × (0 < g) × (a ≡ x * g) × (b ≡ y * g) × (d ≡ z * g)
  pub lowest : (n : ℕ) → n ∣ x → n ∣ y → n ∣ z → n ≡ 1

-- two divides all three
abbrev pub AreEven : ℕ → ℕ → ℕ → Type 0
AreEven a b d = (a % 2 ≡ 0) × (b % 2 ≡ 0) × (d % 2 ≡ 0)

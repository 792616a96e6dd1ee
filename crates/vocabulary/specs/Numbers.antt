-- Whole numbers by their digits.
use Rattle.std.specs.Prelude.{◌≡◌, ◌≢◌, ℕ, ◌<◌, ◌≤◌, List, length, Option, Some, None, slice_index, decimal}

-- the number up to `most` that the bytes spell, or none where they spell none: digits with no
-- leading zero but `0` itself
abbrev pub ReadsNumber : ℕ → List ℕ → Option ℕ → Type 0
ReadsNumber most bytes (Some n) = (n ≤ most) × (decimal n ≡ bytes)
ReadsNumber most bytes None = (n : ℕ) → n ≤ most → decimal n ≢ bytes

-- a `+` is not the first byte, and a zero only where it is alone
pub record IsPlain (bytes : List ℕ) : Type 0 where
  pub some : 0 < length bytes
  pub sign : slice_index bytes 0 ≢ 43
  pub zeros : slice_index bytes 0 ≡ 48 → length bytes ≡ 1

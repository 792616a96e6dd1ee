-- Stars: the creases that meet at a point, as a list of rays.
use Rattle.std.specs.Prelude.{ℕ, ◌+◌, ◌<◌, List, length, slice_index_or, Bool, true, false, count_by}
use Rattle.sheet.specs.declared.mark.Mark.{Mark}
use Rattle.sheet.specs.declared.mark.Mark.TheVariants as mark
pub use Rattle.layers.specs.declared.star.Ray.{Ray}

abbrev pub ray_at : List Ray → ℕ → Ray
ray_at rays i = slice_index_or rays i (record { dir = 0; mark = mark.M })

-- each direction is greater than the one before it
abbrev pub Ascends : List Ray → Type 0
Ascends rays = (i : ℕ) → i + 1 < length rays → (ray_at rays i).dir < (ray_at rays (i + 1)).dir

-- rays counterclockwise round a point, from the one of least direction on
pub record IsStar (rays : List Ray) : Type 0 where
  pub ascends : Ascends rays
  pub directions : (i : ℕ) → i < length rays → (ray_at rays i).dir < 16

abbrev pub is_mountain : Mark → Bool
is_mountain mark.M = true
is_mountain mark.V = false

abbrev pub is_valley : Mark → Bool
is_valley mark.M = false
is_valley mark.V = true

-- how many rays are mountains
abbrev pub mountains : List Ray → ℕ
mountains rays = count_by (λ r. is_mountain r.mark) rays

-- how many rays are valleys
abbrev pub valleys : List Ray → ℕ
valleys rays = count_by (λ r. is_valley r.mark) rays

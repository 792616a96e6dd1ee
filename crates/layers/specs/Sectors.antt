-- The sectors between the rays of a star.
use Rattle.std.specs.Prelude.{◌≡◌, ◌==◌, ℕ, ◌+◌, ◌<◌, ◌≤◌, ◌%◌, List, length, cond, slice_index_or}
use Rattle.sheet.specs.declared.mark.Mark.TheVariants as mark
pub use Rattle.layers.specs.declared.sector_list.Sector.{Sector}
use Rattle.layers.specs.Star.{Ray, ray_at, IsStar}

abbrev pub sector_at : List Sector → ℕ → Sector
sector_at sectors i = slice_index_or sectors i (record { first = 0; mark = mark.M; angle = 0 })

-- the place behind place i in a cyclic list of n
unfoldable pub behind : ℕ → ℕ → ℕ
behind n i = cond (i + 1 == n) 0 (i + 1)

-- Sector i runs from ray i counterclockwise to the next ray, the last one to ray 0. With one ray it
-- is the full turn.
pub record IsSector (rays : List Ray) (i : ℕ) (sector : Sector) : Type 0 where
  pub first : sector.first ≡ (ray_at rays i).dir
  pub mark : sector.mark ≡ (ray_at rays i).mark
  pub some : 1 ≤ sector.angle
  pub turn : sector.angle ≤ 16
  pub reaches : (sector.first + sector.angle) % 16 ≡ (ray_at rays (behind (length rays) i)).dir

-- as many sectors as rays
pub record AreSectorsOf (rays : List Ray) (sectors : List Sector) : Type 0 where
  pub long : length sectors ≡ length rays
  pub each : (i : ℕ) → i < length rays → IsSector rays i (sector_at sectors i)

-- the sectors of some star
pub record AreSectors (sectors : List Sector) : Type 0 where
  pub rays : List Ray
  pub star : IsStar rays
  pub of : AreSectorsOf rays sectors

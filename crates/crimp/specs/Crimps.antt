-- The cyclic lists of the crimping, numbered from their first entry.
use Rattle.std.specs.Prelude.{ℕ, ◌+◌, ◌-◌, ◌<◌, ◌≤◌, List, length}
use Rattle.sheet.specs.declared.mark.Mark.TheVariants as mark
use Rattle.layers.specs.declared.sector_list.Sector.{Sector}
use Rattle.layers.specs.Sectors.{sector_at, behind}
pub use Rattle.crimp.specs.Foldable.{Foldable}
use Rattle.crimp.specs.Crimping.{Opposite, crimped}

-- the three become one entry: the first direction and the mark of the first, and the angles of the
-- two neighbours together less the one between
abbrev pub joined : Sector → Sector → Sector → Sector
joined p q r = record { first = p.first; mark = p.mark; angle = p.angle + r.angle - q.angle }

abbrev pub after_crimp : List Sector → ℕ → List Sector
after_crimp sectors i = crimped joined (record { first = 0; mark = mark.M; angle = 0 }) sectors i

-- a list of four entries or more; entry i has the least angle, and its two creases have opposite marks
pub record CanCrimp (sectors : List Sector) (i : ℕ) : Type 0 where
  pub four : 4 ≤ length sectors
  pub within : i < length sectors
  pub least : (j : ℕ) → j < length sectors → (sector_at sectors i).angle ≤ (sector_at sectors j).angle
  pub opposite : Opposite (sector_at sectors i).mark (sector_at sectors (behind (length sectors) i)).mark

-- no angle is 0
abbrev pub AllOpen : List Sector → Type 0
AllOpen sectors = (j : ℕ) → j < length sectors → 1 ≤ (sector_at sectors j).angle

-- no entry can be crimped
abbrev pub Stuck : List Sector → Type 0
Stuck sectors = (i : ℕ) → CanCrimp sectors i → ⊥

-- crimps, one after another, lead from one list to another
pub data Crimps : List Sector → List Sector → Type 0 where
  Done : (sectors : List Sector) → Crimps sectors sectors
  Then : (sectors ends : List Sector) (i : ℕ) → CanCrimp sectors i → Crimps (after_crimp sectors i) ends
      → Crimps sectors ends

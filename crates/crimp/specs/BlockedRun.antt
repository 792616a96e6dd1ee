-- The crimping of the sectors round a vertex, as far as it goes, and the run of least angles that
-- stands in its way. After the crimping algorithm of Demaine and O'Rourke, Geometric Folding
-- Algorithms, chapter 12; the name of a run and its form are this project's own.
use Rattle.std.specs.Prelude.{◌≡◌, ℕ, ◌+◌, ◌<◌, ◌≤◌, ◌%◌, ◌⊎◌, List, length}
use Rattle.layers.specs.declared.sector_list.Sector.{Sector}
use Rattle.layers.specs.Sectors.{sector_at}
use Rattle.layers.specs.LayerOrder.{before}
use Rattle.crimp.specs.declared.outcome.Run.{Run}
use Rattle.crimp.specs.Crimps.{CanCrimp, Stuck, after_crimp}

-- of the entries that can be crimped, entry i has the least first direction
pub record IsNext (sectors : List Sector) (i : ℕ) : Type 0 where
  pub can : CanCrimp sectors i
  pub first : (j : ℕ) → CanCrimp sectors j → (sector_at sectors i).first ≤ (sector_at sectors j).first

-- the crimping of a list ends with this one: as long as an entry can be crimped, the next one is
pub data CrimpsTo : List Sector → List Sector → Type 0 where
  Ended : (sectors : List Sector) → Stuck sectors → CrimpsTo sectors sectors
  Goes : (sectors ends : List Sector) (i : ℕ) → IsNext sectors i → CrimpsTo (after_crimp sectors i) ends
      → CrimpsTo sectors ends

-- entry i has the least angle
abbrev pub IsLeast : List Sector → ℕ → Type 0
IsLeast sectors i = (j : ℕ) → j < length sectors → (sector_at sectors i).angle ≤ (sector_at sectors j).angle

-- A run is a maximal cyclic list of neighbouring entries of least angle: `count` of them, from
-- `start` on. Where all entries are least it is all of them, and begins anywhere; else the one
-- before it and the one behind it are not least.
pub record IsRun (sectors : List Sector) (start count : ℕ) : Type 0 where
  pub within : start < length sectors
  pub some : 1 ≤ count
  pub least : (k : ℕ) → k < count → IsLeast sectors ((start + k) % length sectors)
  pub maximal : (count ≡ length sectors)
      ⊎ ((IsLeast sectors (before (length sectors) start) → ⊥)
      × (IsLeast sectors ((start + count) % length sectors) → ⊥))

-- the run whose first entry has the least first direction, named by that direction, the first
-- direction of the entry behind its last, its angle and its count
pub record IsNamedRun (sectors : List Sector) (run : Run) : Type 0 where
  pub start : ℕ
  pub is : IsRun sectors start run.count
  pub first : (other count : ℕ) → IsRun sectors other count
      → (sector_at sectors start).first ≤ (sector_at sectors other).first
  pub from : run.from ≡ (sector_at sectors start).first
  pub to : run.to ≡ (sector_at sectors ((start + run.count) % length sectors)).first
  pub angle : run.angle ≡ (sector_at sectors start).angle

-- the named run of the list with which the crimping ends
pub record IsBlockedRun (sectors : List Sector) (run : Run) : Type 0 where
  pub ends : List Sector
  pub crimping : CrimpsTo sectors ends
  pub named : IsNamedRun ends run

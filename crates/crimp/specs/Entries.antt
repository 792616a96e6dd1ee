-- Entries of a list that is being crimped, as sectors and as places in the list.
use Rattle.std.specs.Prelude.{◌≡◌, ℕ, ◌<◌, ◌≤◌, ◌⊎◌, List, length}
use Rattle.layers.specs.declared.sector_list.Sector.{Sector}
use Rattle.layers.specs.Sectors.{sector_at}
use Rattle.layers.specs.LayerOrder.{before}
use Rattle.crimp.specs.declared.entries.Entry.{Entry}
use Rattle.crimp.specs.Cyclic.{Rises}
use Rattle.crimp.specs.Cycle.{numbers_of, entry_at}

-- the entry as a sector: its first direction is that of the sector with its number
abbrev pub sector_for : List Sector → Entry → Sector
sector_for sectors e = record { first = (sector_at sectors e.number).first; mark = e.mark; angle = e.angle }

-- the entries have numbers of sectors, ascending
pub record IsPartOf (sectors : List Sector) (es : List Entry) : Type 0 where
  pub rises : Rises (numbers_of es)
  pub within : (i : ℕ) → i < length es → (entry_at es i).number < length sectors

abbrev pub IsLeastEntry : List Entry → ℕ → Type 0
IsLeastEntry es i = (j : ℕ) → j < length es → (entry_at es i).angle ≤ (entry_at es j).angle

-- entry i is least, and the one before it is not
pub record BeginsRun (es : List Entry) (i : ℕ) : Type 0 where
  pub least : IsLeastEntry es i
  pub apart : IsLeastEntry es (before (length es) i) → ⊥

-- the first entry that begins a run, or the first of all where none does
pub record IsStart (es : List Entry) (start : ℕ) : Type 0 where
  pub begins : BeginsRun es start ⊎ ((start ≡ 0) × ((j : ℕ) → j < length es → BeginsRun es j → ⊥))
  pub first : (j : ℕ) → j < start → BeginsRun es j → ⊥

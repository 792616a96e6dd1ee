-- Deltas: what leaves a pattern and what comes, which ones fit a pattern, and where they lead.
use Rattle.std.specs.Prelude.{◌≡◌, ◌≢◌, ◌⊎◌, ◌↔◌, List, All, Contains}
use Rattle.sheet.specs.Pattern.{ExactCrease, ExactPattern, IsPattern}
use Rattle.creases.specs.Creases.{Ascends}
use Rattle.pattern.specs.declared.delta.Delta.{Delta}

-- the crease is among the old ones and not among the removed ones
abbrev pub Stays : List ExactCrease → Delta → ExactCrease → Type 0
Stays old delta f = Contains old f × (¬ Contains delta.removed f)

-- The new pattern is on the same sheet, and has just the creases of the old one that are not
-- removed, and the added ones.
pub record Leads (old : ExactPattern) (delta : Delta) (new : ExactPattern) : Type 0 where
  pub pattern : IsPattern new
  pub sheet : new.sheet ≡ old.sheet
  pub creases : (f : ExactCrease)
      → Contains new.creases f ↔ (Stays old.creases delta f ⊎ Contains delta.added f)

-- Both lists ascend, the removed creases are there with their colours, no added crease is on a
-- segment that stays, and the delta leads to a pattern.
pub record Fits (old : ExactPattern) (delta : Delta) : Type 0 where
  pub removed_ascend : Ascends delta.removed
  pub added_ascend : Ascends delta.added
  pub there : All (λ f. Contains old.creases f) delta.removed
  pub fresh : All (λ f. (g : ExactCrease) → Stays old.creases delta g → g.seg ≢ f.seg) delta.added
  pub leads : (new : ExactPattern) × Leads old delta new

-- just the creases of these that are not among the others, ascending
pub record IsWithout (creases others only : List ExactCrease) : Type 0 where
  pub ascends : Ascends only
  pub members : (f : ExactCrease) → Contains only f ↔ (Contains creases f × (¬ Contains others f))

-- what only the old creases have leaves, and what only the new ones have comes
pub record IsBetween (old new : List ExactCrease) (delta : Delta) : Type 0 where
  pub removed : IsWithout old new delta.removed
  pub added : IsWithout new old delta.added

-- the delta that takes back what this one does
abbrev pub inverse_of : Delta → Delta
inverse_of delta = record { removed = delta.added; added = delta.removed }

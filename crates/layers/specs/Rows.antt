-- Rules 4 and 5 for one crease, and for one pair.
use Rattle.std.specs.Prelude.{◌≡◌, ◌≢◌, ℕ, ◌+◌, ◌<◌, ◌%◌, ◌↔◌, List, length}
use Rattle.layers.specs.Sectors.{Sector}
use Rattle.layers.specs.LayerOrder.{place, before, height, Between, Inside}

abbrev pub IsClear : List Sector → List ℕ → ℕ → ℕ → Type 0
IsClear sectors order i j = Inside (place sectors i) (place sectors j) (place sectors (j + 1))
    → Between (height order j) (height order (before (length sectors) i)) (height order i) → ⊥

abbrev pub ClearsAll : List Sector → List ℕ → ℕ → Type 0
ClearsAll sectors order i = (j : ℕ) → j < length sectors → IsClear sectors order i j

abbrev pub IsNested : List Sector → List ℕ → ℕ → ℕ → Type 0
IsNested sectors order i j = i ≢ j → place sectors i ≡ place sectors j → i % 2 ≡ j % 2
    → (Between (height order (before (length sectors) j)) (height order (before (length sectors) i))
    (height order i) ↔ Between (height order j) (height order (before (length sectors) i))
    (height order i))

abbrev pub NestsAll : List Sector → List ℕ → ℕ → Type 0
NestsAll sectors order i = (j : ℕ) → j < length sectors → IsNested sectors order i j

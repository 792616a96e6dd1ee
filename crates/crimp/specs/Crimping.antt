-- Crimping a cyclic list at one of its entries.
use Rattle.std.specs.Prelude.{ℕ, ◌+◌, ◌==◌, List, length, cond, slice_index_or, slice_set}
use Rattle.std.specs.List.{remove}
use Rattle.sheet.specs.declared.mark.Mark.{Mark}
use Rattle.sheet.specs.declared.mark.Mark.TheVariants as mark
use Rattle.layers.specs.Sectors.{behind}
use Rattle.layers.specs.LayerOrder.{before}

abbrev pub Opposite : Mark → Mark → Type 0
Opposite mark.M mark.V = Unit {0}
Opposite mark.V mark.M = Unit {0}
Opposite mark.M mark.M = ⊥
Opposite mark.V mark.V = ⊥

-- entry i and the one behind it go; the one before i becomes what `merge` makes of the three
unfoldable pub crimped : {A : Type 0} → (A → A → A → A) → A → List A → ℕ → List A
crimped merge none xs i =
    remove (remove (slice_set xs (before (length xs) i)
    (merge (slice_index_or xs (before (length xs) i) none) (slice_index_or xs i none)
    (slice_index_or xs (behind (length xs) i) none))) i)
    (cond (i + 1 == length xs) 0 i)

-- Which lists of sectors fold flat.
use Rattle.std.specs.Prelude.{ℕ, List}
use Rattle.layers.specs.declared.sector_list.Sector.{Sector}
use Rattle.layers.specs.LayerOrder.{IsLayerOrder}

-- some order of the sectors is a layer order
abbrev pub Foldable : List Sector → Type 0
Foldable sectors = (order : List ℕ) × IsLayerOrder sectors order

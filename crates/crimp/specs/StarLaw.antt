-- What is said of a star by its sectors.
use Rattle.std.specs.Prelude.{◌≡◌, ℕ, List, length}
use Rattle.layers.specs.declared.star.Ray.{Ray}
use Rattle.layers.specs.declared.sector_list.Sector.{Sector}
use Rattle.layers.specs.Sectors.{sector_at, AreSectorsOf}
use Rattle.layers.specs.LayerOrder.{IsLayerOrder}
use Rattle.crimp.specs.BlockedRun.{CrimpsTo}

-- the order is a layer order of the star's sectors
pub record IsOrderOfStar (rays : List Ray) (order : List ℕ) : Type 0 where
  pub sectors : List Sector
  pub of : AreSectorsOf rays sectors
  pub is : IsLayerOrder sectors order

-- two sectors whose creases have one mark
pub record ArePair (sectors : List Sector) : Type 0 where
  pub two : length sectors ≡ 2
  pub same : (sector_at sectors 0).mark ≡ (sector_at sectors 1).mark

-- the crimping of the star's sectors ends with two sectors of one mark
pub record CrimpsToPair (rays : List Ray) : Type 0 where
  pub sectors : List Sector
  pub of : AreSectorsOf rays sectors
  pub ends : List Sector
  pub crimping : CrimpsTo sectors ends
  pub pair : ArePair ends

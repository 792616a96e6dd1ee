-- Tables of places and heights, computed once.
use Rattle.std.specs.Prelude.{◌≡◌, ℕ, ◌+◌, ◌<◌, ◌≤◌, List, length, slice_index_or, pos, ◌+ℤ◌}
use Rattle.layers.specs.Sectors.{Sector}
use Rattle.layers.specs.LayerOrder.{place, height}

-- the places of all creases, each with 4096 added
pub record ArePlaces (sectors : List Sector) (places : List ℕ) : Type 0 where
  pub long : length places ≡ length sectors + 1
  pub each : (i : ℕ) → i ≤ length sectors → pos (slice_index_or places i 0) ≡ place sectors i +ℤ pos 4096

-- the heights of the sectors below count
pub record AreHeights (order : List ℕ) (count : ℕ) (heights : List ℕ) : Type 0 where
  pub long : length heights ≡ count
  pub each : (i : ℕ) → i < count → slice_index_or heights i 0 ≡ height order i

-- The two conditions that a vertex must meet to fold flat, on its angles and on its marks. They are
-- not enough. Source: Hull, Origametry; Demaine and O'Rourke, Geometric Folding Algorithms, chapter
-- 12.
use Rattle.std.specs.Prelude.{◌≡◌, ◌==◌, ℕ, ◌+◌, ◌%◌, ◌⊎◌, List, length}
use Rattle.std.specs.List.{range_with_len, filter, sum_by}
use Rattle.layers.specs.declared.star.Ray.{Ray}
use Rattle.layers.specs.Star.{mountains, valleys}
use Rattle.layers.specs.declared.sector_list.Sector.{Sector}
use Rattle.layers.specs.Sectors.{sector_at}

-- the numbers below n that leave this rest when they are divided by 2
unfoldable pub numbers : ℕ → ℕ → List ℕ
numbers rest n = filter (λ i. i % 2 == rest) (range_with_len 0 n)

-- the sum of the angles of the sectors with these numbers
unfoldable pub angle_sum : ℕ → List Sector → ℕ
angle_sum rest sectors = sum_by (λ i. (sector_at sectors i).angle) (numbers rest (length sectors))

-- the sum of the angles of the sectors with even numbers
abbrev pub even_sum : List Sector → ℕ
even_sum sectors = angle_sum 0 sectors

-- the sum of the angles of the sectors with odd numbers
abbrev pub odd_sum : List Sector → ℕ
odd_sum sectors = angle_sum 1 sectors

-- Kawasaki's condition: the number of sectors is even, and those with even numbers have the same sum of
-- angles as those with odd numbers
pub record MeetsKawasaki (sectors : List Sector) : Type 0 where
  pub even : length sectors % 2 ≡ 0
  pub sums : even_sum sectors ≡ odd_sum sectors

-- Maekawa's condition: mountains and valleys differ by exactly two
abbrev pub MeetsMaekawa : List Ray → Type 0
MeetsMaekawa rays = (mountains rays ≡ valleys rays + 2) ⊎ (valleys rays ≡ mountains rays + 2)

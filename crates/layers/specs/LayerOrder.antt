-- Layer orders of the sectors round a vertex, by five rules. Source: Demaine and O'Rourke,
-- Geometric Folding Algorithms, chapter 12; Hull, Origametry, on flat-folded vertices.
use Rattle.std.specs.Prelude.{◌≡◌, ◌≢◌, ◌==◌, ℕ, zero, suc, ◌+◌, ◌-◌, ◌<◌, ◌≤◌, ◌%◌, ◌⊎◌, ◌↔◌, List, length}
use Rattle.std.specs.Prelude.{cond, ℤ, pos, ◌+ℤ◌, ◌-ℤ◌, ◌<ℤ◌}
use Rattle.std.specs.List.{position_or_len}
use Rattle.sheet.specs.declared.mark.Mark.{Mark}
use Rattle.sheet.specs.declared.mark.Mark.TheVariants as mark
use Rattle.layers.specs.Sectors.{Sector, sector_at}

-- The place of crease i once the paper is folded to a zigzag: even sectors lie face up and go up by
-- their angle, odd ones lie face down and go down.
unfoldable pub place : List Sector → ℕ → ℤ
place sectors zero = pos 0
place sectors (suc i) = cond (i % 2 == 0) (place sectors i +ℤ pos (sector_at sectors i).angle)
    (place sectors i -ℤ pos (sector_at sectors i).angle)

-- the sector that ends at crease i, of n sectors; sector i begins there
unfoldable pub before : ℕ → ℕ → ℕ
before n zero = n - 1
before n (suc i) = i

-- the height at which sector i stands in the order, from the bottom, or the order's length where it does not
abbrev pub height : List ℕ → ℕ → ℕ
height order i = position_or_len (λ k. k == i) order

-- the first stands strictly between the two others
abbrev pub Between : ℕ → ℕ → ℕ → Type 0
Between a b c = ((b < a) × (a < c)) ⊎ ((c < a) × (a < b))

-- the place y is strictly inside the span from x to z
abbrev pub Inside : ℤ → ℤ → ℤ → Type 0
Inside y x z = ((x <ℤ y) × (y <ℤ z)) ⊎ ((z <ℤ y) × (y <ℤ x))

-- At a valley the odd one of two sectors is above the even one, at a mountain below. The first of
-- them has number a, and they stand at these heights.
abbrev pub AgreesAt : Mark → ℕ → ℕ → ℕ → Type 0
AgreesAt mark.V a first second = (a % 2 ≡ 0 → first < second) × (a % 2 ≡ 1 → second < first)
AgreesAt mark.M a first second = (a % 2 ≡ 0 → second < first) × (a % 2 ≡ 1 → first < second)

abbrev pub Agrees : Mark → ℕ → ℕ → (ℕ → ℕ) → Type 0
Agrees m a b rank = AgreesAt m a (rank a) (rank b)

-- Rule 1: the number of sectors is even and at least 2, and the zigzag closes. Hull, Origametry, on
-- Kawasaki's theorem; Demaine and O'Rourke, chapter 12.
pub record ClosesUp (sectors : List Sector) : Type 0 where
  pub even : length sectors % 2 ≡ 0
  pub some : 2 ≤ length sectors
  pub closed : place sectors (length sectors) ≡ pos 0

-- Rule 2: the order has each sector number once, since it is as long as there are sectors and each
-- number stands in it. Demaine and O'Rourke, chapter 12: a total order of the layers.
pub record HasEachOnce (sectors : List Sector) (order : List ℕ) : Type 0 where
  pub as_long : length order ≡ length sectors
  pub each : (i : ℕ) → i < length sectors → height order i < length order

-- Rule 3: each crease lies between its two sectors as its mark says. Hull, Origametry, on mountain
-- and valley assignments.
abbrev pub AgreesWithMarks : List Sector → List ℕ → Type 0
AgreesWithMarks sectors order = (i : ℕ) → i < length sectors
    → Agrees (sector_at sectors i).mark (before (length sectors) i) i (height order)

-- Rule 4: no sector that goes across the place of a crease lies between that crease's two sectors.
-- Demaine and O'Rourke, chapter 12: the paper does not cross a crease.
abbrev pub CrossesNoCrease : List Sector → List ℕ → Type 0
CrossesNoCrease sectors order = (i j : ℕ) → i < length sectors → j < length sectors
    → Inside (place sectors i) (place sectors j) (place sectors (j + 1))
    → Between (height order j) (height order (before (length sectors) i)) (height order i) → ⊥

-- Rule 5: two creases at the same place that open to the same side do not interleave: of the two
-- sectors of one, both or none lie between the two sectors of the other. Demaine and O'Rourke,
-- chapter 12: creases at one place nest as parentheses do.
abbrev pub NestsCreases : List Sector → List ℕ → Type 0
NestsCreases sectors order = (i j : ℕ) → i < length sectors → j < length sectors → i ≢ j
    → place sectors i ≡ place sectors j → i % 2 ≡ j % 2
    → (Between (height order (before (length sectors) j)) (height order (before (length sectors) i))
    (height order i) ↔ Between (height order j) (height order (before (length sectors) i))
    (height order i))

pub record IsLayerOrder (sectors : List Sector) (order : List ℕ) : Type 0 where
  pub closes : ClosesUp sectors
  pub once : HasEachOnce sectors order
  pub agrees : AgreesWithMarks sectors order
  pub clear : CrossesNoCrease sectors order
  pub nested : NestsCreases sectors order

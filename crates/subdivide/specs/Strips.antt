-- For each of the eight forms strips of it, and in each the lines along which that form is one value there.
use Rattle.std.specs.Prelude.{◌≡◌, ℕ, ◌+◌, ◌/◌, ◌^◌, ◌<◌, ◌≤◌, ◌⊎◌, ℤ, ◌-ℤ◌, min, max, unsigned_abs}
use Rattle.std.specs.Prelude.{List, [], length}
use Rattle.std.specs.Prelude.{All, Contains, Some, slice_get}
use Rattle.std.specs.Int.{int_max}
use Rattle.exact.specs.Number.{Less}
use Rattle.exact.specs.Plane.{ExactPoint, OnBoth}
use Rattle.subdivide.specs.Lines.{mark_at, own_row}
use Rattle.subdivide.specs.declared.line.End.TheVariants as end
use Rattle.subdivide.specs.declared.line.MarkedLine.{MarkedLine}
use Rattle.subdivide.specs.declared.strips.Band.{Band}
use Rattle.subdivide.specs.declared.strips.Strip.{Strip}
use Rattle.subdivide.specs.declared.strips.Strips.{Strips}

-- the place of the strip that a mark falls into
abbrev pub place_of : Band → ℤ → ℕ
place_of b m = b.first + min b.last (unsigned_abs (int_max m b.low -ℤ b.low) / 2 ^ b.shift)

-- a band has places for its strips
pub record IsBand (count : ℕ) (b : Band) : Type 0 where
  pub within : b.first + b.last < count
  pub shift : b.shift ≤ 32

-- one band for each of the eight rows
pub record AreBands (strips : Strips) : Type 0 where
  pub eight : length strips.bands.items ≡ 8
  pub each : All (IsBand (length strips.strips.items)) strips.bands.items

-- line i stands in the strip at a place
pub record StandsAt (strips : Strips) (place i : ℕ) : Type 0 where
  pub strip : Strip
  pub is : slice_get strips.strips.items place ≡ Some strip
  pub has : Contains strip.lines.items i

-- line i ends left of where line n, and each line after it, begins
pub record IsPast (lines : List MarkedLine) (n i : ℕ) : Type 0 where
  pub left : (j : ℕ) (l m : MarkedLine) → n ≤ j → slice_get lines i ≡ Some l → slice_get lines j ≡ Some m
      → Less l.seg.q.x m.seg.p.x

-- the place of the strip of its own row
pub record IsOwnPlace (strips : Strips) (l : MarkedLine) (place : ℕ) : Type 0 where
  pub band : Band
  pub is : slice_get strips.bands.items (own_row l) ≡ Some band
  pub place_is : place ≡ place_of band (mark_at l end.Lesser (own_row l))

-- numbers below n
abbrev pub AreBelow : ℕ → List ℕ → Type 0
AreBelow n is = All (λ i. i < n) is

-- the strips have numbers below n
abbrev pub HaveBelow : ℕ → Strips → Type 0
HaveBelow n strips = All (λ s. AreBelow n s.lines.items) strips.strips.items

-- of the first n lines each stands in its own strip, unless it is past, and no other line stands anywhere
pub record AreStanding (lines : List MarkedLine) (n : ℕ) (strips : Strips) : Type 0 where
  pub bands : AreBands strips
  pub within : HaveBelow n strips
  pub stand : (i place : ℕ) (l : MarkedLine) → i < n → slice_get lines i ≡ Some l → IsOwnPlace strips l place
      → StandsAt strips place i ⊎ IsPast lines n i

-- the lines in some strips have been added to a list, and what was past has left them
pub record AreLookedAt (lines : List MarkedLine) (n : ℕ) (Here : ℕ → Type 0) (old new : Strips)
    (near nearer : List ℕ) : Type 0 where
  pub bands : new.bands ≡ old.bands
  pub many : length new.strips.items ≡ length old.strips.items
  pub within : HaveBelow n new
  pub stand : (place i : ℕ) → StandsAt old place i → StandsAt new place i ⊎ IsPast lines n i
  pub below : AreBelow n nearer
  pub keeps : (i : ℕ) → Contains near i → Contains nearer i
  pub given : (place i : ℕ) → Here place → StandsAt old place i → Contains nearer i ⊎ IsPast lines n i

-- the lines before line n that can have a point of it, but for those of its own direction
pub record AreNear (lines : List MarkedLine) (n : ℕ) (near : List ℕ) : Type 0 where
  pub within : AreBelow n near
  pub rest : (i : ℕ) (l m : MarkedLine) → i < n → slice_get lines i ≡ Some l → slice_get lines n ≡ Some m
      → ¬ (l.dir ≡ m.dir) → ¬ Contains near i → (r : ExactPoint) → ¬ OnBoth r l.seg m.seg

-- from one place to another, in either order
abbrev pub IsFromTo : ℕ → ℕ → ℕ → Type 0
IsFromTo a b place = (min a b ≤ place) × (place ≤ max a b)

-- a place of a strip of one row between the ends of line n
pub record IsReached (strips : Strips) (lines : List MarkedLine) (n row place : ℕ) : Type 0 where
  pub band : Band
  pub line : MarkedLine
  pub is : slice_get strips.bands.items row ≡ Some band
  pub stands : slice_get lines n ≡ Some line
  pub between : IsFromTo (place_of band (mark_at line end.Lesser row))
      (place_of band (mark_at line end.Greater row)) place

-- nothing stands in these strips
abbrev pub AreUnused : List Strip → Type 0
AreUnused = All (λ s. s.lines.items ≡ [])

-- the first rows have their bands, and nothing stands in their strips
pub record HaveRows (rows : ℕ) (strips : Strips) : Type 0 where
  pub many : length strips.bands.items ≡ rows
  pub each : All (IsBand (length strips.strips.items)) strips.bands.items
  pub unused : AreUnused strips.strips.items

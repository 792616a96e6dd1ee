-- Lists of creases: in which order they stand, and which ones they have.
use Rattle.std.specs.Prelude.{◌≡◌, ◌≢◌, ◌⊎◌, ◌↔◌, List, All, AllPairs, Contains}
use Rattle.exact.specs.Plane.{ExactSegment, Before, SegmentBefore, Overlap}
use Rattle.sheet.specs.Pattern.{ExactCrease}
use Rattle.sheet.specs.declared.colour.Colour.{Colour}

-- each segment is before all later ones
abbrev pub Ascends : List ExactCrease → Type 0
Ascends creases = AllPairs (λ f g. SegmentBefore f.seg g.seg) creases

-- each segment begins before all later ones do
abbrev pub FollowOneAnother : List ExactCrease → Type 0
FollowOneAnother creases = AllPairs (λ f g. Before f.seg.p g.seg.p) creases

-- a crease of this colour is on exactly this segment
abbrev pub IsColoured : List ExactCrease → ExactSegment → Colour → Type 0
IsColoured creases s c = Contains creases (record { seg = s; colour = c })

-- no crease is on exactly this segment
abbrev pub IsUncreased : List ExactCrease → ExactSegment → Type 0
IsUncreased creases s = All (λ f. f.seg ≢ s) creases

-- no crease overlaps the segment
abbrev pub IsFree : List ExactCrease → ExactSegment → Type 0
IsFree creases s = All (λ f. ¬ Overlap f.seg s) creases

-- just the creases that overlap the segment
abbrev pub AreOverlapping : List ExactCrease → ExactSegment → List ExactCrease → Type 0
AreOverlapping creases s found = (f : ExactCrease)
    → Contains found f ↔ (Contains creases f × Overlap f.seg s)

-- the old creases, and this one
abbrev pub AreWith : List ExactCrease → ExactCrease → List ExactCrease → Type 0
AreWith old crease new = (f : ExactCrease) → Contains new f ↔ ((f ≡ crease) ⊎ Contains old f)

-- the old creases but this one
abbrev pub AreBut : List ExactCrease → ExactCrease → List ExactCrease → Type 0
AreBut old crease new = (f : ExactCrease) → Contains new f ↔ (Contains old f × (f ≢ crease))

-- the crease, with this colour
abbrev pub coloured_as : ExactCrease → Colour → ExactCrease
coloured_as crease c = record { seg = crease.seg; colour = c }

-- the old creases, of which this one took a colour
abbrev pub AreRecoloured : List ExactCrease → ExactCrease → Colour → List ExactCrease → Type 0
AreRecoloured old crease c new = (f : ExactCrease)
    → Contains new f ↔ ((f ≡ coloured_as crease c) ⊎ (Contains old f × (f ≢ crease)))

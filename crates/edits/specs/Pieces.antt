-- What becomes of creases that are cut along a segment, one after another.
use Rattle.std.specs.Prelude.{◌≡◌, ◌≢◌, ◌↔◌, ◌⊎◌, List, All, AllPairs, Contains, Option, Some, None}
use Rattle.exact.specs.Plane.{ExactPoint, ExactSegment, Before, Overlap}
use Rattle.sheet.specs.Pattern.{ExactCrease}
use Rattle.sheet.specs.declared.colour.Colour.{Colour}
use Rattle.plane.specs.Segments.{HasCanonicalEnds, IsHeld}
use Rattle.creases.specs.Standing.{AreStanding}
use Rattle.edits.specs.Parts.{IsPart}
use Rattle.edits.specs.Recolour.{ComesFrom}

-- the crease t is one of those that stand, and overlaps s, along which it is cut
pub record IsCut (creases : List ExactCrease) (t : ExactCrease) (s : ExactSegment) : Type 0 where
  pub standing : AreStanding creases
  pub there : Contains creases t
  pub held : IsHeld s
  pub overlap : Overlap t.seg s

-- those of the creases that stand that overlap s, along which they are cut, each once
pub record AreCut (creases : List ExactCrease) (s : ExactSegment) (cut : List ExactCrease) : Type 0 where
  pub standing : AreStanding creases
  pub held : IsHeld s
  pub members : (f : ExactCrease) → Contains cut f ↔ (Contains creases f × Overlap f.seg s)
  pub once : AllPairs (λ f g. f ≢ g) cut

-- the segment from a to b where a is before b, and else none
abbrev pub IsFromTo : ExactPoint → ExactPoint → Option ExactSegment → Type 0
IsFromTo a b (Some s) = Before a b × (s ≡ record { p = a; q = b })
IsFromTo a b None = ¬ Before a b

-- a segment that can be put in: it can be held, and overlaps no crease
pub record MayCome (creases : List ExactCrease) (u : ExactSegment) : Type 0 where
  pub held : IsHeld u
  pub apart : All (λ f. ¬ Overlap f.seg u) creases

-- t becomes f where it is cut along s: a largest part outside s, in its colour, with ends in lowest terms
pub record IsPiece (s : ExactSegment) (t f : ExactCrease) : Type 0 where
  pub part : IsPart f.seg t.seg s
  pub canonical : HasCanonicalEnds f.seg
  pub colour : f.colour ≡ t.colour

-- t becomes f where it is recoloured along s: it stays whole where it has the new colour, and else
-- what comes from it has ends in lowest terms
abbrev pub IsRecoloured : ExactSegment → Colour → ExactCrease → ExactCrease → Type 0
IsRecoloured s c t f = ((t.colour ≡ c) × (f ≡ t))
    ⊎ ((t.colour ≢ c) × ComesFrom t s c f × HasCanonicalEnds f.seg)

-- t left the creases, and what it becomes came
abbrev pub Replaced : (ExactCrease → Type 0) → List ExactCrease → ExactCrease → List ExactCrease → Type 0
Replaced Becomes old t new = (f : ExactCrease) → Contains new f ↔ ((Contains old f × (f ≢ t)) ⊎ Becomes f)

-- all of these left the creases, and what they become came
abbrev pub AllReplaced : (ExactCrease → ExactCrease → Type 0) → List ExactCrease → List ExactCrease
    → List ExactCrease → Type 0
AllReplaced Becomes old gone new =
    (f : ExactCrease) → Contains new f
    ↔ ((Contains old f × (¬ Contains gone f)) ⊎ ((t : ExactCrease) × Contains gone t × Becomes t f))

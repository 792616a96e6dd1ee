-- Creases as a set: those that have a property, listed.
use Rattle.std.specs.Prelude.{◌≡◌, List, All, AllPairs, Contains}
use Rattle.exact.specs.Plane.{ExactSegment, SamePoint, SegmentBefore}
use Rattle.sheet.specs.Pattern.{ExactCrease}
use Rattle.sheet.specs.declared.colour.Colour.{Colour}
use Rattle.plane.specs.Segments.{HasCanonicalEnds}

abbrev pub crease : ExactSegment → Colour → ExactCrease
crease s c = record { seg = s; colour = c }

-- one segment, by these numbers or others, and one colour
pub record SameCrease (f g : ExactCrease) : Type 0 where
  pub from : SamePoint f.seg.p g.seg.p
  pub to : SamePoint f.seg.q g.seg.q
  pub colour : f.colour ≡ g.colour

-- The list has the creases that stand, each once, ascending by their segments, with ends in lowest terms.
pub record AreCreases (Stands : ExactCrease → Type 0) (creases : List ExactCrease) : Type 0 where
  pub ordered : AllPairs (λ f g. SegmentBefore f.seg g.seg) creases
  pub canonical : All (λ f. HasCanonicalEnds f.seg) creases
  pub each : All Stands creases
  pub all : (f : ExactCrease) → Stands f → (g : ExactCrease) × Contains creases g × SameCrease f g

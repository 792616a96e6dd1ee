-- Giving creases another colour along a segment.
use Rattle.std.specs.Prelude.{◌≡◌, ◌≢◌, ◌⊎◌, List, Contains, Result}
use Rattle.exact.specs.Plane.{ExactSegment, Overlap}
use Rattle.sheet.specs.Pattern.{ExactCrease}
use Rattle.sheet.specs.declared.colour.Colour.{Colour}
use Rattle.edits.specs.Rules.{Gives, Unless, Then}
use Rattle.edits.specs.Parts.{IsPart, IsCommonPart}
use Rattle.edits.specs.CreaseSet.{AreCreases}
use Rattle.edits.specs.Drawn.{Counted}
use Rattle.edits.specs.Erase.{IsBare}
use Rattle.edits.specs.declared.refusal.EditBad.{EditBad}
use Rattle.edits.specs.declared.refusal.EditBad.TheVariants as bad

-- recolouring along s leaves the crease whole: it does not overlap s, or has the new colour already
abbrev pub StaysWhole : ExactSegment → Colour → ExactCrease → Type 0
StaysWhole s c f = (¬ Overlap f.seg s) ⊎ (f.colour ≡ c)

-- f comes from t, which is recoloured along s: a largest part outside s in the old colour, or the
-- common part in the new one
abbrev pub ComesFrom : ExactCrease → ExactSegment → Colour → ExactCrease → Type 0
ComesFrom t s c f =
    (IsPart f.seg t.seg s × (f.colour ≡ t.colour))
    ⊎ (IsCommonPart f.seg t.seg s × (f.colour ≡ c))

-- f stands after the creases were recoloured along s
abbrev pub StandsRecoloured : List ExactCrease → ExactSegment → Colour → ExactCrease → Type 0
StandsRecoloured creases s c f =
    (Contains creases f × StaysWhole s c f)
    ⊎ ((t : ExactCrease) × Contains creases t × Overlap t.seg s × (t.colour ≢ c) × ComesFrom t s c f)

-- the creases recoloured along s, where some crease overlaps s
abbrev pub Recoloured : List ExactCrease → ExactSegment → Colour → Result (List ExactCrease) EditBad → Type 0
Recoloured creases s c = Unless (IsBare creases s) bad.NoCrease
    (Then (Gives (AreCreases (StandsRecoloured creases s c))) Counted)

-- What drawing a crease over others gives.
use Rattle.std.specs.Prelude.{◌≡◌, ◌<◌, ◌⊎◌, List, [], ◌∷◌, length, Contains, Result, Ok}
use Rattle.exact.specs.Plane.{ExactSegment, Overlap}
use Rattle.sheet.specs.Pattern.{ExactCrease, crease_limit}
use Rattle.edits.specs.Rules.{Gives, Unless, Then}
use Rattle.edits.specs.Parts.{IsPart}
use Rattle.edits.specs.CreaseSet.{AreCreases}
use Rattle.edits.specs.declared.refusal.EditBad.{EditBad}
use Rattle.edits.specs.declared.refusal.EditBad.TheVariants as bad

-- What the creases leave beside s: each that does not overlap s, and of each that does its largest
-- parts outside s, in its colour.
abbrev pub IsLeft : List ExactCrease → ExactSegment → ExactCrease → Type 0
IsLeft creases s f =
    (Contains creases f × (¬ Overlap f.seg s))
    ⊎ ((t : ExactCrease) × Contains creases t × Overlap t.seg s × IsPart f.seg t.seg s
    × (f.colour ≡ t.colour))

-- f stands after d was drawn: it is d, or is left beside it
abbrev pub StandsAfter : List ExactCrease → ExactCrease → ExactCrease → Type 0
StandsAfter creases d f = (f ≡ d) ⊎ IsLeft creases d.seg f

-- what stands after d was drawn over the creases
abbrev pub Drawn : List ExactCrease → ExactCrease → List ExactCrease → Type 0
Drawn creases d after = AreCreases (StandsAfter creases d) after

-- at most 20,000 creases may stand
abbrev pub Counted : List ExactCrease → Result (List ExactCrease) EditBad → Type 0
Counted creases = Unless (crease_limit < length creases) (bad.TooManyCreases (length creases))
    (Gives (λ same. same ≡ creases))

-- draws one crease
abbrev pub DrawnOne : ExactCrease → List ExactCrease → Result (List ExactCrease) EditBad → Type 0
DrawnOne d creases = Then (Gives (Drawn creases d)) Counted

-- draws these creases one after another, until too many stand
abbrev pub DrawnInTurn : List ExactCrease → List ExactCrease → Result (List ExactCrease) EditBad → Type 0
DrawnInTurn [] creases answer = answer ≡ Ok creases
DrawnInTurn (d ∷ rest) creases answer = Then (DrawnOne d creases) (λ after. DrawnInTurn rest after) answer

-- The segment that halves the angle between two rays.
use Rattle.std.specs.Prelude.{ℕ, Result}
use Rattle.exact.specs.Plane.{ExactPoint, ExactSegment}
use Rattle.sheet.specs.Sheet.{InSheet}
use Rattle.sheet.specs.Pattern.{ExactPattern}
use Rattle.qroot2.specs.Dir.{IsMiddle, HasOddAngle}
use Rattle.geometry.specs.Rays.{RunsAlong}
use Rattle.edits.specs.Rules.{Unless}
use Rattle.edits.specs.SidesAndCreases.{IsSideOrCrease}
use Rattle.edits.specs.Extend.{Extension}
use Rattle.edits.specs.declared.refusal.EditBad.{EditBad}
use Rattle.edits.specs.declared.refusal.EditBad.TheVariants as bad

-- a side or a crease leaves the point in direction k
abbrev pub HasRay : ExactPattern → ExactPoint → ℕ → Type 0
HasRay pattern at k = (s : ExactSegment) × IsSideOrCrease pattern s × RunsAlong at k s

-- the extension in the direction halfway counterclockwise from the first direction to the second, a
-- full turn where they are equal
abbrev pub Bisector : ExactPattern → ExactPoint → ℕ → ℕ → Result ExactSegment EditBad → Type 0
Bisector pattern at first second =
    Unless (¬ InSheet pattern.sheet at) bad.Outside
    (Unless (¬ HasRay pattern at first) (bad.NoRay first)
    (Unless (¬ HasRay pattern at second) (bad.NoRay second)
    (Unless (HasOddAngle first second) bad.OddAngle
    (λ answer. (k : ℕ) × IsMiddle first second k × Extension pattern at k answer))))

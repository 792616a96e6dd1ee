-- The segment between two points that are given.
use Rattle.std.specs.Prelude.{Result}
use Rattle.exact.specs.Plane.{ExactPoint, ExactSegment, SamePoint, IsSegment}
use Rattle.sheet.specs.Sheet.{ExactSheet, InSheet, OnBorder}
use Rattle.plane.specs.Segments.{HasEnds}
use Rattle.edits.specs.Rules.{Gives, Unless}
use Rattle.edits.specs.declared.refusal.EditBad.{EditBad}
use Rattle.edits.specs.declared.refusal.EditBad.TheVariants as bad

-- s is the segment between p and q
abbrev pub Joins : ExactSegment → ExactPoint → ExactPoint → Type 0
Joins s p q = IsSegment s × HasEnds s p q

-- one of the sixteen directions leads from the one to the other
abbrev pub AreJoined : ExactPoint → ExactPoint → Type 0
AreJoined p q = (s : ExactSegment) × Joins s p q

abbrev pub AreInSheet : ExactSheet → ExactPoint → ExactPoint → Type 0
AreInSheet sheet p q = InSheet sheet p × InSheet sheet q

-- the segment between p and q, in the sheet and not on a side of it
abbrev pub EndsOf : ExactSheet → ExactPoint → ExactPoint → Result ExactSegment EditBad → Type 0
EndsOf sheet p q =
    Unless (¬ AreInSheet sheet p q) bad.Outside
    (Unless (SamePoint p q) bad.SamePoint
    (Unless (¬ AreJoined p q) bad.NotDirection
    (Unless ((s : ExactSegment) × Joins s p q × OnBorder sheet s) bad.OnBorder
    (Gives (λ s. Joins s p q)))))

-- The rabbit ear of a right isosceles triangle.
use Rattle.std.specs.Prelude.{◌≡◌, ◌⊎◌, List, [], ◌∷◌, Result}
use Rattle.exact.specs.Plane.{ExactPoint, ExactSegment, SamePoint, IsPointCanonical, IsPointRepresentable}
use Rattle.sheet.specs.Sheet.{ExactSheet, InSheet}
use Rattle.sheet.specs.Pattern.{ExactCrease}
use Rattle.sheet.specs.declared.colour.Colour.{Colour}
use Rattle.sheet.specs.declared.colour.Colour.TheVariants as colour
use Rattle.sheet.specs.declared.mark.Mark.{Mark}
use Rattle.sheet.specs.declared.mark.Mark.TheVariants as mark
use Rattle.plane.specs.Triangles.{IsOddCorner, AreOnOneLine, IsIncentre, IsFootBetween}
use Rattle.edits.specs.Rules.{Gives, Unless}
use Rattle.edits.specs.Ends.{Joins, AreJoined}
use Rattle.edits.specs.CreaseSet.{crease}
use Rattle.edits.specs.declared.refusal.EditBad.{EditBad}
use Rattle.edits.specs.declared.refusal.EditBad.TheVariants as bad
use Rattle.edits.specs.declared.refusal.PointKind.TheVariants as point

-- the colour of a mark
abbrev pub marked : Mark → Colour
marked mark.M = colour.M
marked mark.V = colour.V

-- the colour of the other mark
abbrev pub countermarked : Mark → Colour
countermarked mark.M = colour.V
countermarked mark.V = colour.M

-- two of the corners are one point
abbrev pub AreNotThree : ExactPoint → ExactPoint → ExactPoint → Type 0
AreNotThree p q r = SamePoint p q ⊎ (SamePoint q r ⊎ SamePoint r p)

-- each two corners are joined by one of the sixteen directions
abbrev pub AreAllJoined : ExactPoint → ExactPoint → ExactPoint → Type 0
AreAllJoined p q r = AreJoined p q × AreJoined q r × AreJoined r p

-- The corners are on one line, or an angle is odd. What remains are the right isosceles triangles:
-- three even angles with a sum of eight units are 2, 2 and 4.
abbrev pub IsNoMolecule : ExactPoint → ExactPoint → ExactPoint → Type 0
IsNoMolecule p q r = AreOnOneLine p q r ⊎ (IsOddCorner p q r ⊎ (IsOddCorner q r p ⊎ IsOddCorner r p q))

-- the four creases: from the corners to the incentre with the mark, and from there to its foot with
-- the other mark
pub record IsEar (m : Mark) (p q r : ExactPoint) (ear : List ExactCrease) : Type 0 where
  pub centre : ExactPoint
  pub foot : ExactPoint
  pub centre_is : IsIncentre p q r centre
  pub foot_is : IsFootBetween p q centre foot
  pub centre_canonical : IsPointCanonical centre
  pub foot_canonical : IsPointCanonical foot
  pub segments : (a b c d : ExactSegment) × Joins a p centre × Joins b q centre × Joins c r centre
      × Joins d centre foot
      × (ear ≡ crease a (marked m) ∷ crease b (marked m) ∷ crease c (marked m) ∷ crease d
      (countermarked m) ∷ [])

-- the creases of the rabbit ear of a triangle, in the order in which they are drawn
abbrev pub EarOf : ExactSheet → Mark → ExactPoint → ExactPoint → ExactPoint
    → Result (List ExactCrease) EditBad → Type 0
EarOf sheet m p q r =
    Unless (¬ (InSheet sheet p × InSheet sheet q × InSheet sheet r)) bad.Outside
    (Unless (AreNotThree p q r) bad.SamePoint
    (Unless (¬ AreAllJoined p q r) bad.NotDirection
    (Unless (IsNoMolecule p q r) bad.NoMolecule
    (Unless ((c : ExactPoint) × IsIncentre p q r c × (¬ IsPointRepresentable c)) (bad.Range point.Incentre)
    (Unless ((c f : ExactPoint) × IsIncentre p q r c × IsFootBetween p q c f × (¬ IsPointRepresentable f))
    (bad.Range point.Foot)
    (Gives (IsEar m p q r)))))))

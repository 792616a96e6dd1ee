-- Triangles: their angles, their bisectors, the incentre and its foot on a side.
use Rattle.std.specs.Prelude.{ℕ, ◌<◌, ◌⊎◌}
use Rattle.exact.specs.Number.{Positive}
use Rattle.exact.specs.Plane.{ExactPoint, DirOf, away, turn, IsZero}
use Rattle.qroot2.specs.Dir.{IsMiddle, HasOddAngle}
use Rattle.plane.specs.Sides.{IsOnLine}
use Rattle.plane.specs.Images.{IsFoot}

-- the directions from a corner to the two others
pub record AreArms (corner first second : ExactPoint) (i j : ℕ) : Type 0 where
  pub first_small : i < 16
  pub second_small : j < 16
  pub first_leads : DirOf corner first i
  pub second_leads : DirOf corner second j

-- The angle at the corner is an odd number of units. It is so in both ways round, since a full turn is 16.
abbrev pub IsOddCorner : ExactPoint → ExactPoint → ExactPoint → Type 0
IsOddCorner corner first second = (i j : ℕ) × AreArms corner first second i j × HasOddAngle i j

-- c is on the line through the corner that halves the angle there, an even number of units
abbrev pub IsOnBisector : ExactPoint → ExactPoint → ExactPoint → ExactPoint → Type 0
IsOnBisector corner first second c = (i j k : ℕ) × AreArms corner first second i j × IsMiddle i j k
    × IsOnLine corner k c

-- the three points are on one line
abbrev pub AreOnOneLine : ExactPoint → ExactPoint → ExactPoint → Type 0
AreOnOneLine p q r = IsZero (turn (away p q) (away p r))

-- c is on the left of the line from p to q
abbrev pub IsLeftOf : ExactPoint → ExactPoint → ExactPoint → Type 0
IsLeftOf p q c = Positive (turn (away p q) (away p c)).a (turn (away p q) (away p c)).b

-- c is strictly inside the triangle: on the left of all sides as one goes round it in one of the two ways
abbrev pub IsInTriangle : ExactPoint → ExactPoint → ExactPoint → ExactPoint → Type 0
IsInTriangle p q r c =
    (IsLeftOf p q c × IsLeftOf q r c × IsLeftOf r p c)
    ⊎ (IsLeftOf p r c × IsLeftOf r q c × IsLeftOf q p c)

-- c is the point strictly inside the triangle on all three bisectors
pub record IsIncentre (p q r c : ExactPoint) : Type 0 where
  pub inside : IsInTriangle p q r c
  pub at_p : IsOnBisector p q r c
  pub at_q : IsOnBisector q r p c
  pub at_r : IsOnBisector r p q c

-- f is the foot of the perpendicular from c to the line of p and q
abbrev pub IsFootBetween : ExactPoint → ExactPoint → ExactPoint → ExactPoint → Type 0
IsFootBetween p q c f = (k : ℕ) × (k < 16) × DirOf p q k × IsFoot p k c f

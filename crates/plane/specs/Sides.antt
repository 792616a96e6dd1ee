-- On which side of a line a point is.
use Rattle.std.specs.Prelude.{ℕ, ◌⊎◌}
use Rattle.exact.specs.Number.{ExactNumber}
use Rattle.exact.specs.Plane.{ExactPoint, ExactSegment, vector, turn, away, IsZero}
use Rattle.qroot2.specs.declared.sign.Sign.{Sign}
use Rattle.qroot2.specs.declared.sign.Sign.TheVariants.{Minus, Zero, Plus}
use Rattle.qroot2.specs.Wide.{HasSign}

-- the turn from direction k to the way from p to r: above zero where r is on the left of the line
-- through p in that direction, zero on the line
abbrev pub turn_of : ExactPoint → ℕ → ExactPoint → ExactNumber
turn_of p k r = turn (vector k) (away p r)

-- Plus on the left, Minus on the right, Zero on the line
abbrev pub IsSide : ExactPoint → ℕ → ExactPoint → Sign → Type 0
IsSide p k r sign = HasSign (turn_of p k r).a (turn_of p k r).b sign

-- r is on the line through p in direction k
abbrev pub IsOnLine : ExactPoint → ℕ → ExactPoint → Type 0
IsOnLine p k r = IsZero (turn_of p k r)

-- both ends of s are on the left of the line through p in direction k, or both on its right
abbrev pub IsBeside : ExactPoint → ℕ → ExactSegment → Type 0
IsBeside p k s =
    (IsSide p k s.p Plus × IsSide p k s.q Plus) ⊎ (IsSide p k s.p Minus × IsSide p k s.q Minus)

-- two signs are one, and not Zero
abbrev pub IsOneSide : Sign → Sign → Type 0
IsOneSide Minus Minus = Unit {0}
IsOneSide Minus Zero = ⊥
IsOneSide Minus Plus = ⊥
IsOneSide Zero second = ⊥
IsOneSide Plus Minus = ⊥
IsOneSide Plus Zero = ⊥
IsOneSide Plus Plus = Unit {0}

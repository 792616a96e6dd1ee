-- Points on the border of the sheet, by coordinates.
use Rattle.std.specs.Prelude.{ℕ, ◌⊎◌}
use Rattle.exact.specs.Number.{ExactNumber, Same, whole}
use Rattle.exact.specs.Plane.{ExactPoint}
use Rattle.sheet.specs.Sheet.{ExactSheet, InSheet}

-- x is where a length n begins, or where it ends: 0 or n
abbrev pub IsEnd : ℕ → ExactNumber → Type 0
IsEnd n x = Same (whole 0) x ⊎ Same (whole n) x

-- both in the sheet, and on the line of one side
abbrev pub AreOnSide : ExactSheet → ExactPoint → ExactPoint → Type 0
AreOnSide sheet p q =
    (InSheet sheet p × InSheet sheet q)
    × ((Same p.x q.x × IsEnd sheet.w p.x) ⊎ (Same p.y q.y × IsEnd sheet.h p.y))

-- The sheet by the lines of its sides: as one goes round it counterclockwise, it is on the left of all four.
use Rattle.std.specs.Prelude.{◌≡◌, ℕ, ◌⊎◌}
use Rattle.exact.specs.Plane.{ExactPoint, vector}
use Rattle.sheet.specs.Sheet.{ExactSheet, corner, IsInside}
use Rattle.qroot2.specs.declared.sign.Sign.{Sign}
use Rattle.qroot2.specs.declared.sign.Sign.TheVariants.{Minus, Zero, Plus}
use Rattle.geometry.specs.Root.{count, Above}
use Rattle.geometry.specs.Gap.{cross, det}
use Rattle.geometry.specs.Rays.{NearStart}

-- the first of two signs that is not Zero is Plus
abbrev pub FirstIsPlus : Sign → Sign → Type 0
FirstIsPlus Minus second = ⊥
FirstIsPlus Zero Minus = ⊥
FirstIsPlus Zero Zero = ⊥
FirstIsPlus Zero Plus = Unit {0}
FirstIsPlus Plus second = Unit {0}

-- the point is on the left of the line through p in direction j, or on it and direction k leads to the left
abbrev pub LeadsLeft : ExactPoint → ℕ → ℕ → ExactPoint → Type 0
LeadsLeft at k j p = Above (cross (vector j) p at)
    ⊎ ((cross (vector j) p at ≡ count 0) × Above (det (vector j) (vector k)))

-- it is so for the lines of all four sides: low, right, high, left
pub record LeadsInside (sheet : ExactSheet) (at : ExactPoint) (k : ℕ) : Type 0 where
  pub low : LeadsLeft at k 0 (corner sheet 0 0)
  pub right : LeadsLeft at k 4 (corner sheet 1 0)
  pub high : LeadsLeft at k 8 (corner sheet 1 1)
  pub left : LeadsLeft at k 12 (corner sheet 0 1)

-- no point of the ray close to its start is strictly inside the sheet
abbrev pub MissesInside : ExactSheet → ExactPoint → ℕ → Type 0
MissesInside sheet at k = NearStart at k (λ r. ¬ IsInside sheet r)

-- The sheet of paper: the rectangle from (0, 0) to (w, h), with whole w and h.
use Rattle.std.specs.Prelude.{◌≡◌, ℕ, zero, suc, ◌≤◌, ◌⊎◌, List, [], ◌∷◌, Contains}
use Rattle.exact.specs.Number.{ExactNumber, Less, AtMost, whole}
use Rattle.exact.specs.Plane.{ExactPoint, ExactSegment, OnSeg}

-- how wide and how high the sheet is
pub record ExactSheet : Type 0 where
  pub w : ℕ
  pub h : ℕ

-- a width or a height
abbrev pub IsLength : ℕ → Type 0
IsLength n = (1 ≤ n) × (n ≤ 8)

-- both are whole numbers from 1 to 8
pub record IsSheet (sheet : ExactSheet) : Type 0 where
  pub wide : IsLength sheet.w
  pub high : IsLength sheet.h

-- the sheet of width 1 and height 1
abbrev pub square : ExactSheet
square = record { w = 1; h = 1 }

-- where a length n begins (0) and where it ends (1)
abbrev pub end_at : ℕ → ℕ → ℕ
end_at zero n = 0
end_at (suc i) n = n

-- the corner at the left (0) or the right (1), and low (0) or high (1)
abbrev pub corner : ExactSheet → ℕ → ℕ → ExactPoint
corner sheet i j = record { x = whole (end_at i sheet.w); y = whole (end_at j sheet.h) }

abbrev pub IsCorner : ExactSheet → ExactPoint → Type 0
IsCorner sheet p = (p ≡ corner sheet 0 0)
    ⊎ ((p ≡ corner sheet 0 1) ⊎ ((p ≡ corner sheet 1 0) ⊎ (p ≡ corner sheet 1 1)))

-- the four sides, ascending: left, low, high, right
abbrev pub sides : ExactSheet → List ExactSegment
sides sheet =
    record { p = corner sheet 0 0; q = corner sheet 0 1 }
    ∷ record { p = corner sheet 0 0; q = corner sheet 1 0 }
    ∷ record { p = corner sheet 0 1; q = corner sheet 1 1 }
    ∷ record { p = corner sheet 1 0; q = corner sheet 1 1 }
    ∷ []

-- from 0 to n
abbrev pub IsWithin : ℕ → ExactNumber → Type 0
IsWithin n x = AtMost (whole 0) x × AtMost x (whole n)

-- in the sheet, its border with it
abbrev pub InSheet : ExactSheet → ExactPoint → Type 0
InSheet sheet p = IsWithin sheet.w p.x × IsWithin sheet.h p.y

-- strictly inside the sheet
abbrev pub IsInside : ExactSheet → ExactPoint → Type 0
IsInside sheet p =
    Less (whole 0) p.x × Less p.x (whole sheet.w) × Less (whole 0) p.y × Less p.y (whole sheet.h)

-- on one of the sides
abbrev pub OnSide : ExactSheet → ExactPoint → Type 0
OnSide sheet p = (t : ExactSegment) × Contains (sides sheet) t × OnSeg p t

-- all of s lies on one side
abbrev pub OnBorder : ExactSheet → ExactSegment → Type 0
OnBorder sheet s = (t : ExactSegment) × Contains (sides sheet) t × ((r : ExactPoint) → OnSeg r s → OnSeg r t)

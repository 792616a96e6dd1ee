-- Whole numbers by which forms are told apart.
use Rattle.std.specs.Prelude.{◌≡◌, ℕ, ◌-◌, ◌%◌, ◌^◌, ◌⊎◌, List, ℤ, pos, neg_ℤ, ◌≤ℤ◌, get_or}
use Rattle.std.specs.Int.{int_max, int_min}
use Rattle.exact.specs.Number.{mul, whole}
use Rattle.exact.specs.Plane.{ExactPoint}
use Rattle.exact.specs.Floor.{IsFloor}
use Rattle.plane.specs.Ways.{IsAhead}
use Rattle.forms.specs.Forms.{form_of}

-- the number of 32 bits that is nearest to a whole number
abbrev pub nearest : ℤ → ℤ
nearest f = int_max (neg_ℤ (pos (2 ^ 31))) (int_min f (pos (2 ^ 31 - 1)))

-- m is the mark of p in direction k at scale n: the whole part of n times its form, as 32 bits have it
abbrev pub IsMark : ℕ → ℕ → ExactPoint → ℤ → Type 0
IsMark n k p m = (f : ℤ) × IsFloor (mul (whole n) (form_of k p)) f × (m ≡ nearest f)

-- the mark in a row: row 0 to 4 are the directions 0 to 4, and row 5 to 7 the directions 13 to 15
abbrev pub mark_in : List ℤ → ℕ → ℤ
mark_in marks row = get_or marks row (pos 0)

-- the marks of p in all directions that lead to later points, each in the row of its direction
abbrev pub AreMarks : ℕ → ExactPoint → List ℤ → Type 0
AreMarks n p marks = (k : ℕ) → IsAhead k → IsMark n k p (mark_in marks (k % 8))

-- m is not below both a and b, and not above both
abbrev pub IsBetween : ℤ → ℤ → ℤ → Type 0
IsBetween a b m = ((a ≤ℤ m) × (m ≤ℤ b)) ⊎ ((b ≤ℤ m) × (m ≤ℤ a))

-- The native text of a pattern: a line for the sheet, and a line for each crease.
use Rattle.std.specs.Prelude.{ℕ, zero, suc, ◌+◌, List, [], ◌∷◌, ◌++◌, codes}
use Rattle.exact.specs.Plane.{ExactPoint, ExactSegment}
use Rattle.sheet.specs.Sheet.{ExactSheet}
use Rattle.sheet.specs.Pattern.{ExactCrease, ExactPattern}
use Rattle.sheet.specs.declared.colour.Colour.{Colour}
use Rattle.sheet.specs.declared.colour.Colour.TheVariants as colour
use Rattle.plane.specs.PointText.{point_text}

-- the letter of a colour
abbrev pub letter : Colour → ℕ
letter colour.M = 77
letter colour.V = 86
letter colour.A = 65

-- a segment: the lesser end, a space, the greater end
abbrev pub seg_text : ExactSegment → List ℕ
seg_text s = point_text s.p ++ 32 ∷ point_text s.q

-- a crease: the letter, a space, its segment
abbrev pub crease_text : ExactCrease → List ℕ
crease_text f = letter f.colour ∷ 32 ∷ seg_text f.seg

-- a line: the letter, a space, the lesser end, a space, the greater end and a line feed
abbrev pub line_text : Colour → ExactPoint → ExactPoint → List ℕ
line_text c p q = letter c ∷ 32 ∷ (point_text p ++ 32 ∷ (point_text q ++ 10 ∷ []))

abbrev pub lines_text : List ExactCrease → List ℕ
lines_text [] = []
lines_text (f ∷ creases) = line_text f.colour f.seg.p f.seg.q ++ lines_text creases

-- the line of the sheet of width 1 and height 1, and how that of every other sheet begins
abbrev pub square_line : List ℕ
square_line = codes "q2 1\n"

abbrev pub other_start : List ℕ
other_start = codes "q2 2 "

-- `q2 1` for the sheet of width 1 and height 1, and for every other sheet `q2 2` with the width and
-- the height, a digit each
abbrev pub header_of : ℕ → ℕ → List ℕ
header_of (suc zero) (suc zero) = square_line
header_of w h = other_start ++ (48 + w) ∷ 32 ∷ (48 + h) ∷ 10 ∷ []

abbrev pub header : ExactSheet → List ℕ
header sheet = header_of sheet.w sheet.h

-- The one text of a pattern. Its creases are listed ascending.
abbrev pub pattern_text : ExactPattern → List ℕ
pattern_text pattern = header pattern.sheet ++ lines_text pattern.creases

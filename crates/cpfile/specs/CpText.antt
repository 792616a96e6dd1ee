-- The CP text of a subdivision.
use Rattle.std.specs.Prelude.{◌≡◌, ℕ, ◌*◌, ◌^◌, pos, List, [], ◌∷◌, ◌++◌, flat_map, slice_index_or}
use Rattle.decimals.specs.DecimalText.{decimal_text}
use Rattle.decimals.specs.DecimalPoint.{AreDecimalPoints}
use Rattle.decimals.specs.declared.point.DecimalPoint.{DecimalPoint}
use Rattle.subdivide.specs.Subdivision.{ExactSubdivision}
use Rattle.subdivide.specs.declared.edge.Edge.{Edge}
use Rattle.subdivide.specs.declared.edge.EdgeKind.{EdgeKind}
use Rattle.subdivide.specs.declared.edge.EdgeKind.TheVariants as kind

-- the digit of what an edge lies on: 1 the border, 2 a mountain, 3 a valley, 4 an auxiliary crease
abbrev pub type_digit : EdgeKind → ℕ
type_digit kind.B = 49
type_digit kind.M = 50
type_digit kind.V = 51
type_digit kind.A = 52

-- x and y, with a space between
abbrev pub place_text : DecimalPoint → List ℕ
place_text p = decimal_text p.x ++ 32 ∷ decimal_text p.y

-- The place of a vertex by its number. Each edge has its ends among the vertices, so that what
-- stands past the last is never asked for.
abbrev pub place_of : List DecimalPoint → ℕ → DecimalPoint
place_of places i = slice_index_or places i (record { x = pos 0; y = pos 0 })

-- an edge: its type, and the places of its ends
abbrev pub cp_line : List DecimalPoint → Edge → List ℕ
cp_line places e =
    type_digit e.kind ∷ 32 ∷ (place_text (place_of places e.from)
    ++ 32 ∷ (place_text (place_of places e.to) ++ 10 ∷ []))

-- a line for each edge
abbrev pub cp_lines : List DecimalPoint → List Edge → List ℕ
cp_lines places = flat_map (cp_line places)

-- In CP text a length of 1 is 400, and the lower left corner of the sheet is at -200 -200: where a
-- vertex is at x, its place is at the whole part of 400·10^12·x, less 200·10^12, in units of
-- 10^-12.
abbrev pub AreCpPlaces : ExactSubdivision → List DecimalPoint → Type 0
AreCpPlaces s = AreDecimalPoints (400 * 10 ^ 12) (200 * 10 ^ 12) s.vertices

-- text is the CP text of s
pub record IsCpText (s : ExactSubdivision) (text : List ℕ) : Type 0 where
  pub lines : (places : List DecimalPoint) × AreCpPlaces s places × (cp_lines places s.edges ≡ text)

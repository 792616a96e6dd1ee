-- The lines of a CP text, and what each of them draws.
use Rattle.std.specs.Prelude.{◌≡◌, ◌≢◌, ℕ, ◌+◌, ◌<◌, ◌≤◌, ◌⊎◌, List, [], ◌∷◌, ◌++◌, length, All, ℤ, Option}
use Rattle.std.specs.Prelude.{Some, None, Result, Ok, Err}
use Rattle.exact.specs.Number.{ExactNumber, IsCanonical}
use Rattle.exact.specs.Plane.{ExactPoint, ExactSegment, IsSegment}
use Rattle.sheet.specs.Sheet.{ExactSheet, OnBorder}
use Rattle.sheet.specs.declared.colour.Colour.{Colour}
use Rattle.sheet.specs.declared.colour.Colour.TheVariants as colour
use Rattle.plane.specs.Segments.{HasEnds}
use Rattle.lattice.specs.Lattice.{Measures}
use Rattle.lattice.specs.Near.{IsAnswer}
use Rattle.lattice.specs.declared.near.Near.TheVariants as near
use Rattle.decimals.specs.Decimal.{IsDecimal}
use Rattle.lines.specs.Words.{Word, AreWords}
use Rattle.lines.specs.Lines.{IsFirstLine}
use Rattle.cpfile.specs.declared.bad.CpWhy.{CpWhy}
use Rattle.cpfile.specs.declared.bad.CpWhy.TheVariants as why
use Rattle.cpfile.specs.declared.line.Drawn.{Drawn}
use Rattle.cpfile.specs.declared.line.Drawn.TheVariants as drawn

-- The lines of a text without LF and without one CR before it. The last line needs no LF.
abbrev pub AreTextLines : List ℕ → List (List ℕ) → Type 0
AreTextLines text [] = text ≡ []
AreTextLines text (line ∷ lines) =
    (text ≢ []) × ((after : List ℕ) × IsFirstLine text line after × AreTextLines after lines)

-- the type of a line: the colour of the crease that it draws, or a contour
abbrev pub IsKind : List ℕ → Option Colour → Type 0
IsKind word None = word ≡ 49 ∷ []
IsKind word (Some colour.M) = word ≡ 50 ∷ []
IsKind word (Some colour.V) = word ≡ 51 ∷ []
IsKind word (Some colour.A) = (word ≡ 48 ∷ []) ⊎ (word ≡ 52 ∷ [])

-- The five fields of a line: its type, and the coordinates of its two ends in units of 10^-12.
pub record Fields : Type 0 where
  pub kind : Option Colour
  pub x1 : ℤ
  pub y1 : ℤ
  pub x2 : ℤ
  pub y2 : ℤ

-- the line is five words, a type and four decimals
pub record HasFields (line : List ℕ) (fields : Fields) : Type 0 where
  pub type : Word
  pub from_x : Word
  pub from_y : Word
  pub to_x : Word
  pub to_y : Word
  pub words : AreWords line (type ∷ from_x ∷ from_y ∷ to_x ∷ to_y ∷ [])
  pub kind : IsKind type.text fields.kind
  pub x1 : IsDecimal from_x.text fields.x1
  pub y1 : IsDecimal from_y.text fields.y1
  pub x2 : IsDecimal to_x.text fields.x2
  pub y2 : IsDecimal to_y.text fields.y2

-- A coordinate, and the length of the axis on which it lies.
pub record Coordinate : Type 0 where
  pub axis : ℕ
  pub units : ℤ

-- the coordinates of fields 2 to 5
abbrev pub coordinates : ExactSheet → Fields → List Coordinate
coordinates sheet fields =
    record { axis = sheet.w; units = fields.x1 }
    ∷ record { axis = sheet.h; units = fields.y1 }
    ∷ record { axis = sheet.w; units = fields.x2 }
    ∷ record { axis = sheet.h; units = fields.y2 }
    ∷ []

-- u is the one lattice value near the coordinate
pub record IsAt (l : Measures) (c : Coordinate) (u : ExactNumber) : Type 0 where
  pub near : IsAnswer l c.axis c.units (near.One u)
  pub held : IsCanonical u

-- the coordinate has one near value
abbrev pub IsPlaced : Measures → Coordinate → Type 0
IsPlaced l c = (u : ExactNumber) × IsAt l c u

-- the coordinate in this field has no near value, or two and more, of which these are the least
abbrev pub IsUnplaced : Measures → ℕ → Coordinate → CpWhy → Type 0
IsUnplaced l field c (why.NoNear f) = (f ≡ field) × IsAnswer l c.axis c.units near.Nothing
IsUnplaced l field c (why.TwoNear f u v) =
    (f ≡ field) × IsAnswer l c.axis c.units (near.Two u v) × IsCanonical u × IsCanonical v
IsUnplaced l field c why.TooLong = ⊥
IsUnplaced l field c why.Line = ⊥
IsUnplaced l field c why.NotDirection = ⊥
IsUnplaced l field c why.InnerContour = ⊥

-- The first of some coordinates that has not one near value; the first of them all stands in field 2.
pub record IsFirstUnplaced (l : Measures) (all : List Coordinate) (why : CpWhy) : Type 0 where
  pub before : List Coordinate
  pub at : Coordinate
  pub after : List Coordinate
  pub whole : all ≡ before ++ at ∷ after
  pub placed : All (IsPlaced l) before
  pub unplaced : IsUnplaced l (length before + 2) at why

-- p and q are the near points
pub record AreEnds (l : Measures) (sheet : ExactSheet) (fields : Fields) (p q : ExactPoint) : Type 0 where
  pub x1 : IsAt l (record { axis = sheet.w; units = fields.x1 }) p.x
  pub y1 : IsAt l (record { axis = sheet.h; units = fields.y1 }) p.y
  pub x2 : IsAt l (record { axis = sheet.w; units = fields.x2 }) q.x
  pub y2 : IsAt l (record { axis = sheet.h; units = fields.y2 }) q.y

-- s joins p and q
abbrev pub Joins : ExactSegment → ExactPoint → ExactPoint → Type 0
Joins s p q = IsSegment s × HasEnds s p q

-- What a line of this type draws between its near points. It is dropped where they are one point or
-- it lies on a side, whatever its type.
abbrev pub DrawsBetween : ExactSheet → Option Colour → ExactPoint → ExactPoint → Result Drawn CpWhy → Type 0
DrawsBetween sheet kind p q (Ok drawn.Nothing) = ⊥
DrawsBetween sheet kind p q (Ok drawn.Dropped) =
    (p ≡ q) ⊎ ((s : ExactSegment) × Joins s p q × OnBorder sheet s)
DrawsBetween sheet kind p q (Ok (drawn.Line f)) =
    Joins f.seg p q × (¬ OnBorder sheet f.seg) × (kind ≡ Some f.colour)
DrawsBetween sheet kind p q (Err why.NotDirection) = (p ≢ q) × ((s : ExactSegment) → ¬ Joins s p q)
DrawsBetween sheet kind p q (Err why.InnerContour) =
    (kind ≡ None) × ((s : ExactSegment) × Joins s p q × (¬ OnBorder sheet s))
DrawsBetween sheet kind p q (Err why.TooLong) = ⊥
DrawsBetween sheet kind p q (Err why.Line) = ⊥
DrawsBetween sheet kind p q (Err (why.NoNear f)) = ⊥
DrawsBetween sheet kind p q (Err (why.TwoNear f u v)) = ⊥

-- what a line with these fields draws
abbrev pub DrawsFields : Measures → ExactSheet → Fields → Result Drawn CpWhy → Type 0
DrawsFields l sheet fields answer =
    ((w : CpWhy) × IsFirstUnplaced l (coordinates sheet fields) w × (answer ≡ Err w))
    ⊎ ((p q : ExactPoint) × AreEnds l sheet fields p q × DrawsBetween sheet fields.kind p q answer)

-- the greatest length of a line
abbrev pub line_limit : ℕ
line_limit = 256

-- what a line of no more than that length draws
abbrev pub DrawsWords : Measures → ExactSheet → List ℕ → Result Drawn CpWhy → Type 0
DrawsWords l sheet line answer =
    (AreWords line [] × (answer ≡ Ok drawn.Nothing))
    ⊎ (((¬ AreWords line []) × ((fields : Fields) → ¬ HasFields line fields) × (answer ≡ Err why.Line))
    ⊎ ((fields : Fields) × HasFields line fields × DrawsFields l sheet fields answer))

-- What a line draws, or the first test that it fails. A line without words draws nothing.
abbrev pub DrawsLine : Measures → ExactSheet → List ℕ → Result Drawn CpWhy → Type 0
DrawsLine l sheet line answer =
    ((line_limit < length line) × (answer ≡ Err why.TooLong))
    ⊎ ((length line ≤ line_limit) × DrawsWords l sheet line answer)

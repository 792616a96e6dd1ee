-- The words of a line as texts, and what they are read as.
use Rattle.std.specs.Prelude.{ℕ, ◌≤◌, ◌^◌, List, [], ◌∷◌, map, unsigned_abs}
use Rattle.lines.specs.Words.{Word}
use Rattle.decimals.specs.Decimal.{IsDecimal}
use Rattle.cpfile.specs.CpDrawing.{Fields, IsKind}
use Rattle.cpfile.specs.declared.fields.Read.{Read}

abbrev pub texts_of : List Word → List (List ℕ)
texts_of = map (λ w. w.text)

-- the texts of a type and of four coordinates
pub record Texts : Type 0 where
  pub kind : List ℕ
  pub x1 : List ℕ
  pub y1 : List ℕ
  pub x2 : List ℕ
  pub y2 : List ℕ

-- in the order in which they stand on a line
abbrev pub in_order : Texts → List (List ℕ)
in_order texts = texts.kind ∷ texts.x1 ∷ texts.y1 ∷ texts.x2 ∷ texts.y2 ∷ []

-- they are those of a type and of four decimals
pub record AreFields (texts : Texts) (fields : Fields) : Type 0 where
  pub kind : IsKind texts.kind fields.kind
  pub x1 : IsDecimal texts.x1 fields.x1
  pub y1 : IsDecimal texts.y1 fields.y1
  pub x2 : IsDecimal texts.x2 fields.x2
  pub y2 : IsDecimal texts.y2 fields.y2

-- near values can be asked for
pub record AreSmall (read : Read) : Type 0 where
  pub x1 : unsigned_abs read.x1 ≤ 2 ^ 100
  pub y1 : unsigned_abs read.y1 ≤ 2 ^ 100
  pub x2 : unsigned_abs read.x2 ≤ 2 ^ 100
  pub y2 : unsigned_abs read.y2 ≤ 2 ^ 100

-- The query that asks for a vertex.
use Rattle.std.specs.Prelude.{◌≡◌, ◌≢◌, ℕ, ◌+◌, ◌*◌, ◌≤◌, ◌⊎◌, List, [], ◌∷◌, ◌++◌, codes}

-- a hexadecimal digit of this value, in either case
abbrev pub IsHexDigit : ℕ → ℕ → Type 0
IsHexDigit digit value =
    ((digit ≡ 48 + value) × (value ≤ 9))
    ⊎ ((10 ≤ value) × (value ≤ 15) × ((digit ≡ 55 + value) ⊎ (digit ≡ 87 + value)))

-- the byte of two digits, the higher one first
pub record IsHexPair (first second byte : ℕ) : Type 0 where
  pub high : ℕ
  pub low : ℕ
  pub is_first : IsHexDigit first high
  pub is_second : IsHexDigit second low
  pub valued : byte ≡ 16 * high + low

-- a percent sign (37) and the two digits of a byte
pub record IsEscape (unit : List ℕ) (byte : ℕ) : Type 0 where
  pub first : ℕ
  pub second : ℕ
  pub spelled : unit ≡ 37 ∷ first ∷ second ∷ []
  pub pair : IsHexPair first second byte

-- a byte is written as itself, unless it is a percent sign, or by its digits
abbrev pub Writes : List ℕ → ℕ → Type 0
Writes unit byte = ((unit ≡ byte ∷ []) × (byte ≢ 37)) ⊎ IsEscape unit byte

-- the text begins with this byte, written in one of these ways, and goes on so behind it
pub record IsFirstByte (text : List ℕ) (byte : ℕ) (behind : List ℕ) : Type 0 where
  pub unit : List ℕ
  pub whole : text ≡ unit ++ behind
  pub writes : Writes unit byte

-- the text is the bytes of the value, each written in one of these ways
abbrev pub Unescapes : List ℕ → List ℕ → Type 0
Unescapes text [] = text ≡ []
Unescapes text (byte ∷ value) = (behind : List ℕ) × IsFirstByte text byte behind × Unescapes behind value

-- the query asks for the point of this text: all bytes behind `at=` are the value
pub record IsQuery (query point : List ℕ) : Type 0 where
  pub value : List ℕ
  pub whole : query ≡ codes "at=" ++ value
  pub meant : Unescapes value point

-- What the reader of CP text is measured by.
use Rattle.std.specs.Prelude.{◌≡◌, ℕ, ℤ, Result, Ok, Err}
use Rattle.exact.specs.Number.{ExactNumber}
use Rattle.exact.specs.Plane.{ExactPoint}
use Rattle.sheet.specs.Sheet.{ExactSheet}
use Rattle.lattice.specs.Lattice.{Measures}
use Rattle.ports.specs.declared.stop.Stop.{Stop}
use Rattle.ports.specs.declared.stop.Stop.TheVariants as stop
use Rattle.decimals.specs.Decimal.{capped}
use Rattle.cpfile.specs.CpDrawing.{Fields, IsAt, IsUnplaced, IsFirstUnplaced, AreEnds, coordinates}
use Rattle.cpfile.specs.declared.bad.CpWhy.{CpWhy}
use Rattle.cpfile.specs.declared.fields.Read.{Read}

-- An axis: the lattice, and a length.
pub record ExactAxis : Type 0 where
  pub lattice : Measures
  pub length : ℕ

-- A lattice and a sheet.
pub record Ruled : Type 0 where
  pub lattice : Measures
  pub sheet : ExactSheet

-- the near value of each decimal that is read as so many units, in this field
abbrev pub Places : ExactAxis → ℕ → ℤ → Result ExactNumber (Stop CpWhy) → Type 0
Places axis field units (Ok u) =
    (x : ℤ) → units ≡ capped x → IsAt axis.lattice (record { axis = axis.length; units = x }) u
Places axis field units (Err (stop.Why w)) =
    (x : ℤ) → units ≡ capped x → IsUnplaced axis.lattice field (record { axis = axis.length; units = x }) w
Places axis field units (Err stop.NoMemory) = Unit {0}

-- the fields of a line, with decimals as they are read
pub record AreRead (fields : Fields) (read : Read) : Type 0 where
  pub kind : read.kind ≡ fields.kind
  pub x1 : read.x1 ≡ capped fields.x1
  pub y1 : read.y1 ≡ capped fields.y1
  pub x2 : read.x2 ≡ capped fields.x2
  pub y2 : read.y2 ≡ capped fields.y2

-- the near points of lines whose fields are read so
abbrev pub PlacesEnds : Ruled → Read → Result (ExactPoint × ExactPoint) (Stop CpWhy) → Type 0
PlacesEnds r read (Ok ends) =
    (fields : Fields) → AreRead fields read → AreEnds r.lattice r.sheet fields ends.0 ends.1
PlacesEnds r read (Err (stop.Why w)) =
    (fields : Fields) → AreRead fields read → IsFirstUnplaced r.lattice (coordinates r.sheet fields) w
PlacesEnds r read (Err stop.NoMemory) = Unit {0}

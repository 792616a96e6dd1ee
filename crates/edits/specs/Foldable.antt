-- A triangle that can be folded into a rabbit ear, with the directions of its sides.
use Rattle.std.specs.Prelude.{ℕ, ◌+◌, ◌%◌, ◌<◌}
use Rattle.exact.specs.Plane.{ExactPoint, DirOf}
use Rattle.sheet.specs.Sheet.{ExactSheet, InSheet}
use Rattle.qroot2.specs.Dir.{HasOddAngle}
use Rattle.edits.specs.RabbitEar.{AreNotThree, AreAllJoined, IsNoMolecule}

-- A sheet, and three points in an order.
pub record ExactTriangle : Type 0 where
  pub sheet : ExactSheet
  pub p : ExactPoint
  pub q : ExactPoint
  pub r : ExactPoint

-- the sides, one after another, lead in these directions
pub record HasSides (p q r : ExactPoint) (i j m : ℕ) : Type 0 where
  pub i_small : i < 16
  pub j_small : j < 16
  pub m_small : m < 16
  pub pq : DirOf p q i
  pub qr : DirOf q r j
  pub rp : DirOf r p m

-- the angle from a side to the one that ends where it begins is odd
abbrev pub HasOddTurn : ℕ → ℕ → Type 0
HasOddTurn begins ends = HasOddAngle begins ((ends + 8) % 16)

-- three corners, not on one line, with angles that can be halved
pub record IsMolecule (p q r : ExactPoint) : Type 0 where
  pub three : ¬ AreNotThree p q r
  pub even : ¬ IsNoMolecule p q r

-- no rule for the corners is broken
pub record IsFoldable (sheet : ExactSheet) (p q r : ExactPoint) : Type 0 where
  pub in_sheet : InSheet sheet p × InSheet sheet q × InSheet sheet r
  pub joined : AreAllJoined p q r
  pub molecule : IsMolecule p q r

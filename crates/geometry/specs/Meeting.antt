-- What two segments have in common.
use Rattle.std.specs.Prelude.{◌≡◌, ℕ, ◌<◌, ◌⊎◌}
use Rattle.exact.specs.Plane.{ExactPoint, Before, DirOf, ExactSegment}
use Rattle.geometry.specs.Root.{Root, minus, Above}

-- a segment of direction k
pub record Along (s : ExactSegment) (k : ℕ) : Type 0 where
  pub small : k < 16
  pub ordered : Before s.p s.q
  pub dir : DirOf s.p s.q k

-- both above zero, or both below
abbrev pub SameSide : Root → Root → Type 0
SameSide f g = (Above f × Above g) ⊎ (Above (minus f) × Above (minus g))

-- m is the later of a and b
pub record IsLater (a b m : ExactPoint) : Type 0 where
  pub one : (m ≡ a) ⊎ (m ≡ b)
  pub first : ¬ Before m a
  pub second : ¬ Before m b

-- m is the earlier of a and b
pub record IsEarlier (a b m : ExactPoint) : Type 0 where
  pub one : (m ≡ a) ⊎ (m ≡ b)
  pub first : ¬ Before a m
  pub second : ¬ Before b m

-- Segments by their ends.
use Rattle.std.specs.Prelude.{◌≡◌, ◌⊎◌}
use Rattle.exact.specs.Plane.{ExactPoint, ExactSegment, IsSegment, IsPointCanonical}

-- p and q are the ends of s, in either order
abbrev pub HasEnds : ExactSegment → ExactPoint → ExactPoint → Type 0
HasEnds s p q = ((s.p ≡ p) × (s.q ≡ q)) ⊎ ((s.p ≡ q) × (s.q ≡ p))

-- both ends can be held, in lowest terms
abbrev pub HasCanonicalEnds : ExactSegment → Type 0
HasCanonicalEnds s = IsPointCanonical s.p × IsPointCanonical s.q

-- a segment whose ends can be held, in lowest terms
pub record IsHeld (s : ExactSegment) : Type 0 where
  pub segment : IsSegment s
  pub from : IsPointCanonical s.p
  pub to : IsPointCanonical s.q

-- The answers of `meet`.
use Rattle.std.specs.Prelude.{◌≡◌, ℕ, ◌↔◌}
use Rattle.exact.specs.Plane.{ExactPoint, ExactSegment, IsSegment, OnSeg, OnBoth, Cross, IsPointCanonical}
use Rattle.exact.specs.Plane.{IsPointRepresentable, vector}
use Rattle.geometry.specs.Root.{count}
use Rattle.geometry.specs.Meeting.{Along}
use Rattle.geometry.specs.Gap.{cross}
use Rattle.plane.specs.Segments.{HasCanonicalEnds}
use Rattle.plane.specs.declared.outcome.Meet.{Meet}
use Rattle.plane.specs.declared.outcome.Meet.TheVariants.{Apart, At, Overlap, AtOutOfRange}

abbrev pub Meets : ExactSegment → ExactSegment → Meet → Type 0
Meets s t Apart = (r : ExactPoint) → ¬ OnBoth r s t
Meets s t (At v) = Cross s t v
Meets s t (Overlap u) = IsSegment u × ((r : ExactPoint) → OnBoth r s t ↔ OnSeg r u)
Meets s t AtOutOfRange = (v : ExactPoint) × Cross s t v × (¬ IsPointRepresentable v)

-- the points that are given are in lowest terms
abbrev pub HasCanonicalPoints : Meet → Type 0
HasCanonicalPoints Apart = Unit {0}
HasCanonicalPoints (At v) = IsPointCanonical v
HasCanonicalPoints (Overlap u) = HasCanonicalEnds u
HasCanonicalPoints AtOutOfRange = Unit {0}

-- of one direction, on one line
pub record AreCollinear (s t : ExactSegment) : Type 0 where
  pub k : ℕ
  pub first : Along s k
  pub second : Along t k
  pub line : cross (vector k) s.p t.p ≡ count 0

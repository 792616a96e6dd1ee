-- What a ray meets of some segments.
use Rattle.std.specs.Prelude.{◌≡◌, ℕ, ◌⊎◌}
use Rattle.exact.specs.Plane.{ExactPoint, ExactSegment, OnSeg, IsPointCanonical, IsPointRepresentable}
use Rattle.geometry.specs.Rays.{OnRay, RunsAlong, MeetsRay}
use Rattle.edits.specs.declared.sight.Sight.{Sight}
use Rattle.edits.specs.declared.sight.Sight.TheVariants.{Nothing, Along, First, OutOfRange}

-- r is on one of the segments
abbrev pub OnOne : (ExactSegment → Type 0) → ExactPoint → Type 0
OnOne IsOne r = (s : ExactSegment) × IsOne s × OnSeg r s

-- v is the first point of the ray on one of the segments
pub record IsFirstOf (IsOne : ExactSegment → Type 0) (at : ExactPoint) (k : ℕ) (v : ExactPoint) : Type 0 where
  pub ray : OnRay at k v
  pub met : OnOne IsOne v
  pub first : (r : ExactPoint) → OnRay at k r → OnRay r k v → ¬ OnOne IsOne r

-- the ray meets s in exactly one point, which cannot be held
abbrev pub IsLost : ExactPoint → ℕ → ExactSegment → Type 0
IsLost at k s = (v : ExactPoint) × MeetsRay at k s v × (¬ IsPointRepresentable v)

-- what the ray meets of the segments: one runs along it, or else one is met in a point that cannot
-- be held, or else there is a first point, or none
abbrev pub Sees : ExactPoint → ℕ → (ExactSegment → Type 0) → Sight → Type 0
Sees at k IsOne Along = (s : ExactSegment) × IsOne s × RunsAlong at k s
Sees at k IsOne OutOfRange = ((s : ExactSegment) × IsOne s × IsLost at k s)
    × ((s : ExactSegment) → IsOne s → ¬ RunsAlong at k s)
Sees at k IsOne (First v) = IsPointCanonical v × IsFirstOf IsOne at k v
    × ((s : ExactSegment) → IsOne s → ¬ IsLost at k s)
Sees at k IsOne Nothing = (r : ExactPoint) → OnRay at k r → ¬ OnOne IsOne r

-- m is one of a and b, and from neither does the direction lead to it
pub record IsNearer (k : ℕ) (a b m : ExactPoint) : Type 0 where
  pub one : (m ≡ a) ⊎ (m ≡ b)
  pub first : ¬ OnRay a k m
  pub second : ¬ OnRay b k m

-- z is what is met of all segments, where x is what is met of some and y what is met of the others
abbrev pub AreBoth : ℕ → Sight → Sight → Sight → Type 0
AreBoth k Along y z = z ≡ Along
AreBoth k OutOfRange Along z = z ≡ Along
AreBoth k OutOfRange OutOfRange z = z ≡ OutOfRange
AreBoth k OutOfRange (First w) z = z ≡ OutOfRange
AreBoth k OutOfRange Nothing z = z ≡ OutOfRange
AreBoth k (First v) Along z = z ≡ Along
AreBoth k (First v) OutOfRange z = z ≡ OutOfRange
AreBoth k (First v) (First w) z = (m : ExactPoint) × (z ≡ First m) × IsNearer k v w m
AreBoth k (First v) Nothing z = z ≡ First v
AreBoth k Nothing y z = z ≡ y

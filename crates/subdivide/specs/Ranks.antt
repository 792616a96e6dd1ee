-- The places of points among the vertices.
use Rattle.std.specs.Prelude.{◌≡◌, ◌≢◌, ℕ, ◌-◌, ◌<◌, ◌⊎◌, List, [], ◌∷◌, ◌++◌, length, All, Contains}
use Rattle.std.specs.Prelude.{slice_get, Some}
use Rattle.std.specs.List.Sorted.{IsSortedBy}
use Rattle.std.specs.Ordering.{is_lt}
use Rattle.exact.specs.Plane.{ExactPoint}
use Rattle.chains.specs.Chains.{Ascends}
use Rattle.plane.specs.Order.{point_cmp}
use Rattle.subdivide.specs.declared.found.Cut.{Cut}
use Rattle.subdivide.specs.declared.ranks.Numbered.{Numbered}

-- a point of the list by its number
abbrev pub IsNumbered : List ExactPoint → Numbered → Type 0
IsNumbered points p = slice_get points p.number ≡ Some p.at

-- the first n points with their numbers
pub record AreNumbered (points : List ExactPoint) (n : ℕ) (list : List Numbered) : Type 0 where
  pub each : All (IsNumbered points) list
  pub all : (k : ℕ) → k < n → (p : Numbered) × Contains list p × (p.number ≡ k)

-- all points with their numbers, none before one that is less
pub record AreOrdered (points : List ExactPoint) (list : List Numbered) : Type 0 where
  pub numbered : AreNumbered points (length points) list
  pub ordered : IsSortedBy (λ p q. is_lt (point_cmp p.at q.at)) list

-- a list that ends in x: as it was, or with x behind it where it did not end so
pub record IsEndedBy (x : ExactPoint) (old new : List ExactPoint) : Type 0 where
  pub ends : slice_get new (length new - 1) ≡ Some x
  pub is : (new ≡ old) ⊎ ((new ≡ old ++ x ∷ []) × (slice_get old (length old - 1) ≢ Some x))

-- the points ascending, each once, and the place of each by its number
pub record AreRanked (points vertices : List ExactPoint) (ranks : List ℕ) : Type 0 where
  pub ascends : Ascends point_cmp vertices
  pub within : (v : ExactPoint) → Contains vertices v → Contains points v
  pub many : length ranks ≡ length points
  pub each : (k rank : ℕ) (v : ExactPoint) → slice_get points k ≡ Some v → slice_get ranks k ≡ Some rank
      → slice_get vertices rank ≡ Some v

-- the same cut, by the place of its point
pub record IsCutRanked (ranks : List ℕ) (old new : Cut) : Type 0 where
  pub line : new.line ≡ old.line
  pub point : slice_get ranks old.point ≡ Some new.point

-- the same cuts, by the places of their points
pub record AreCutsRanked (ranks : List ℕ) (old new : List Cut) : Type 0 where
  pub each : (c : Cut) → Contains new c → (d : Cut) × Contains old d × IsCutRanked ranks d c
  pub all : (d : Cut) → Contains old d → (c : Cut) × Contains new c × IsCutRanked ranks d c

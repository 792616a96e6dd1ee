-- Ascending lists, and the neighbours in them.
use Rattle.std.specs.Prelude.{◌≡◌, ℕ, ◌+◌, ◌<◌, List, length, slice_index_or, Contains, AllPairs}
use Rattle.std.specs.declared.cmp.Ordering.{Ordering}
use Rattle.std.specs.declared.cmp.Ordering.TheVariants as o

-- each element is below those after it
abbrev pub Ascends : {X : Type 0} → (X → X → Ordering) → List X → Type 0
Ascends R xs = AllPairs (λ x y. R x y ≡ o.Less) xs

-- v comes next after u
pub record AreNeighbours {X : Type 0} (xs : List X) (u v : X) : Type 0 where
  pub place : ℕ
  pub within : place + 1 < length xs
  pub first : slice_index_or xs place u ≡ u
  pub second : slice_index_or xs (place + 1) v ≡ v

-- u is below v, and nothing of the list between them
pub record AreNext {X : Type 0} (R : X → X → Ordering) (xs : List X) (u v : X) : Type 0 where
  pub from : Contains xs u
  pub to : Contains xs v
  pub ordered : R u v ≡ o.Less
  pub none : (w : X) → Contains xs w → R u w ≡ o.Less → ¬ (R w v ≡ o.Less)

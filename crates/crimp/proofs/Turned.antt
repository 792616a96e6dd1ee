-- Cyclic lists that begin elsewhere, and the three entries of a crimp.
use Rattle.std.specs.Prelude.{◌≡◌, ℕ, List, ◌∷◌, ◌++◌, length, slice_index_or}
use Rattle.layers.specs.Sectors.{behind}
use Rattle.layers.specs.LayerOrder.{before}

-- one cyclic list, begun at two places
pub record Turned {A : Type 0} (xs ys : List A) : Type 0 where
  pub front : List A
  pub back : List A
  pub from : xs ≡ front ++ back
  pub to : ys ≡ back ++ front

-- the entries before, at and behind i, and the others; once the list is crimped at i, the others stay
pub record Fronted {A : Type 0} (merge : A → A → A → A) (none : A) (xs : List A) (i : ℕ) (ys : List A) : Type 0 where
  pub p : A
  pub q : A
  pub r : A
  pub rest : List A
  pub whole : Turned xs (p ∷ q ∷ r ∷ rest)
  pub less : Turned ys (merge p q r ∷ rest)
  pub before_i : slice_index_or xs (before (length xs) i) none ≡ p
  pub at_i : slice_index_or xs i none ≡ q
  pub behind_i : slice_index_or xs (behind (length xs) i) none ≡ r

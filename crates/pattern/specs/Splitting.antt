-- A list cut at the first place of an element.
use Rattle.std.specs.Prelude.{◌≡◌, ℕ, List, ◌∷◌, ◌++◌, Contains}

-- before and after the first place at which the list has the element
pub record SplitsAt (bytes : List ℕ) (at : ℕ) (before after : List ℕ) : Type 0 where
  pub joined : bytes ≡ before ++ at ∷ after
  pub first : ¬ Contains before at

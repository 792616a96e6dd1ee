-- Texts cut at the first place of a byte.
use Rattle.std.specs.Prelude.{◌≡◌, ℕ, ◌⊎◌, List, [], ◌∷◌, ◌++◌, Contains}

-- what stands before the first such byte, and what stands behind it; without one all stands before
pub record IsSplit (mark : ℕ) (text before behind : List ℕ) : Type 0 where
  pub first : ¬ Contains before mark
  pub whole : (text ≡ before ++ mark ∷ behind) ⊎ ((text ≡ before) × (behind ≡ []))

-- Orders of the first sectors alone.
use Rattle.std.proofs.Common.{◌≡◌, ◌≤◌, ◌<◌, ℕ, List, length}
use Rattle.layers.specs.LayerOrder.{height, before}

-- the order has each of the numbers below k, once, and no other
pub record Partial (order : List ℕ) (k : ℕ) : Type 0 where
  pub long : length order ≡ k
  pub each : (a : ℕ) → a < k → height order a < k
  pub lacks : (a : ℕ) → k ≤ a → height order a ≡ k

-- the sectors below k stand in the order as their ranks do
pub record Ascends (rank : ℕ → ℕ) (order : List ℕ) (k : ℕ) : Type 0 where
  pub up : (a b : ℕ) → a < k → b < k → rank a < rank b → height order a < height order b

-- of n sectors, b comes behind a
abbrev pub Next : ℕ → ℕ → ℕ → Type 0
Next n a b = (b < n) × (a ≡ before n b)

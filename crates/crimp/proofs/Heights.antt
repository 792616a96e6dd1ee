-- Numbers alone: heights in an order, and in the same order with one number spread to three.
use Rattle.std.proofs.Common.{◌≡◌, ◌≤◌, ◌<◌, ◌+◌, ℕ, arith, ◌⊎◌, inl, inr}
use Rattle.std.specs.Prelude.{◌↔◌}
use Rattle.crimp.specs.Rules.{Between}

-- P is the height of the one, which is spread to P, P + 1 and P + 2. What stood at z stands at y, where the one itself counts as standing at Y.
pub data Kept (P Y z y : ℕ) : Type 0 where
  Below : z < P → y ≡ z → Kept P Y z y
  Above : P < z → y ≡ z + 2 → Kept P Y z y
  Spread : z ≡ P → y ≡ Y → Kept P Y z y

pub less_on : {P Y z y w v : ℕ} → P ≤ Y → Y ≤ P + 2 → Kept P Y z y → Kept P Y w v → z < w → y < v
less_on lo hi (Below a e) (Below b f) h = omega arith
less_on lo hi (Below a e) (Above b f) h = omega arith
less_on lo hi (Below a e) (Spread b f) h = omega arith
less_on lo hi (Above a e) (Below b f) h = omega arith
less_on lo hi (Above a e) (Above b f) h = omega arith
less_on lo hi (Above a e) (Spread b f) h = omega arith
less_on lo hi (Spread a e) (Below b f) h = omega arith
less_on lo hi (Spread a e) (Above b f) h = omega arith
less_on lo hi (Spread a e) (Spread b f) h = omega arith

pub less_back : {P Y z y w v : ℕ} → P ≤ Y → Y ≤ P + 2 → Kept P Y z y → Kept P Y w v → y < v → z < w
less_back lo hi (Below a e) (Below b f) h = omega arith
less_back lo hi (Below a e) (Above b f) h = omega arith
less_back lo hi (Below a e) (Spread b f) h = omega arith
less_back lo hi (Above a e) (Below b f) h = omega arith
less_back lo hi (Above a e) (Above b f) h = omega arith
less_back lo hi (Above a e) (Spread b f) h = omega arith
less_back lo hi (Spread a e) (Below b f) h = omega arith
less_back lo hi (Spread a e) (Above b f) h = omega arith
less_back lo hi (Spread a e) (Spread b f) h = omega arith

pub between_on : {P Y z y w v u t : ℕ} → P ≤ Y → Y ≤ P + 2 → Kept P Y z y → Kept P Y w v → Kept P Y u t → Between z w u → Between y v t
between_on lo hi k l m (inl h) = inl (less_on lo hi l k h.0, less_on lo hi k m h.1)
between_on lo hi k l m (inr h) = inr (less_on lo hi m k h.0, less_on lo hi k l h.1)

pub between_back : {P Y z y w v u t : ℕ} → P ≤ Y → Y ≤ P + 2 → Kept P Y z y → Kept P Y w v → Kept P Y u t → Between y v t → Between z w u
between_back lo hi k l m (inl h) = inl (less_back lo hi l k h.0, less_back lo hi k m h.1)
between_back lo hi k l m (inr h) = inr (less_back lo hi m k h.0, less_back lo hi k l h.1)

pub both_on : {P Y z y z' y' w v u t : ℕ} → P ≤ Y → Y ≤ P + 2 → Kept P Y z y → Kept P Y z' y' → Kept P Y w v → Kept P Y u t → (Between z w u ↔ Between z' w u) → (Between y v t ↔ Between y' v t)
both_on lo hi k k' l m e = (λ h. between_on lo hi k' l m (e.0 (between_back lo hi k l m h)), λ h. between_on lo hi k l m (e.1 (between_back lo hi k' l m h)))

-- the three stand side by side, upwards or downwards
abbrev pub Stacked : ℕ → ℕ → ℕ → ℕ → Type 0
Stacked P p q r = ((p ≡ P) × (q ≡ P + 1) × (r ≡ P + 2)) ⊎ ((r ≡ P) × (q ≡ P + 1) × (p ≡ P + 2))

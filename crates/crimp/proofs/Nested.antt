-- Numbers alone: what stands between what, where three stand side by side.
use Rattle.std.proofs.Common.{◌≡◌, ◌≤◌, ◌<◌, ◌+◌, ℕ, arith, ◌⊎◌, inl, inr}
use Rattle.crimp.specs.Rules.{Between}
use Rattle.crimp.proofs.Heights.{Stacked}

-- the height of a sector that is none of the three
abbrev pub Aside : ℕ → ℕ → ℕ → Type 0
Aside P z y = ((z < P) × (y ≡ z)) ⊎ ((P < z) × (y ≡ z + 2))

-- between the last of the three and another: the first two or neither
pub first_two : {P p q r z t c d : ℕ} → Stacked P p q r → Aside P z t → c ≡ p → d ≡ q → Between c r t → Between d r t
first_two (inl k) (inl m) e f (inl g) = absurd (omega arith)
first_two (inl k) (inl m) e f (inr g) = inr (omega arith, omega arith)
first_two (inl k) (inr m) e f (inl g) = absurd (omega arith)
first_two (inl k) (inr m) e f (inr g) = absurd (omega arith)
first_two (inr k) (inl m) e f (inl g) = absurd (omega arith)
first_two (inr k) (inl m) e f (inr g) = absurd (omega arith)
first_two (inr k) (inr m) e f (inl g) = inl (omega arith, omega arith)
first_two (inr k) (inr m) e f (inr g) = absurd (omega arith)

pub two_first : {P p q r z t c d : ℕ} → Stacked P p q r → Aside P z t → c ≡ p → d ≡ q → Between d r t → Between c r t
two_first (inl k) (inl m) e f (inl g) = absurd (omega arith)
two_first (inl k) (inl m) e f (inr g) = inr (omega arith, omega arith)
two_first (inl k) (inr m) e f (inl g) = absurd (omega arith)
two_first (inl k) (inr m) e f (inr g) = absurd (omega arith)
two_first (inr k) (inl m) e f (inl g) = absurd (omega arith)
two_first (inr k) (inl m) e f (inr g) = absurd (omega arith)
two_first (inr k) (inr m) e f (inl g) = inl (omega arith, omega arith)
two_first (inr k) (inr m) e f (inr g) = absurd (omega arith)

-- P to P + 2 has no sector but the three: what stands beside it is beside each of them
pub data Out (P y : ℕ) : Type 0 where
  Under : y < P → Out P y
  Over : P + 2 < y → Out P y

pub out : {P z y : ℕ} → Aside P z y → Out P y
out (inl m) = Under (omega arith)
out (inr m) = Over (omega arith)

-- between two others: all of the three or none
pub alike : {P u v a b : ℕ} → P ≤ u → u ≤ P + 2 → P ≤ v → v ≤ P + 2 → Out P a → Out P b → Between u a b → Between v a b
alike lu hu lv hv (Under m) (Under n) (inl g) = absurd (omega arith)
alike lu hu lv hv (Under m) (Under n) (inr g) = absurd (omega arith)
alike lu hu lv hv (Under m) (Over n) (inl g) = inl (omega arith, omega arith)
alike lu hu lv hv (Under m) (Over n) (inr g) = absurd (omega arith)
alike lu hu lv hv (Over m) (Under n) (inl g) = absurd (omega arith)
alike lu hu lv hv (Over m) (Under n) (inr g) = inr (omega arith, omega arith)
alike lu hu lv hv (Over m) (Over n) (inl g) = absurd (omega arith)
alike lu hu lv hv (Over m) (Over n) (inr g) = absurd (omega arith)

-- between the first of the three and another: the last two or neither
pub last_two : {P p q r z a b c d : ℕ} → Stacked P p q r → Aside P z a → b ≡ p → c ≡ q → d ≡ r → Between c a b → Between d a b
last_two (inl k) (inl m) h e f (inl g) = absurd (omega arith)
last_two (inl k) (inl m) h e f (inr g) = absurd (omega arith)
last_two (inl k) (inr m) h e f (inl g) = absurd (omega arith)
last_two (inl k) (inr m) h e f (inr g) = inr (omega arith, omega arith)
last_two (inr k) (inl m) h e f (inl g) = inl (omega arith, omega arith)
last_two (inr k) (inl m) h e f (inr g) = absurd (omega arith)
last_two (inr k) (inr m) h e f (inl g) = absurd (omega arith)
last_two (inr k) (inr m) h e f (inr g) = absurd (omega arith)

pub two_last : {P p q r z a b c d : ℕ} → Stacked P p q r → Aside P z a → b ≡ p → c ≡ q → d ≡ r → Between d a b → Between c a b
two_last (inl k) (inl m) h e f (inl g) = absurd (omega arith)
two_last (inl k) (inl m) h e f (inr g) = absurd (omega arith)
two_last (inl k) (inr m) h e f (inl g) = absurd (omega arith)
two_last (inl k) (inr m) h e f (inr g) = inr (omega arith, omega arith)
two_last (inr k) (inl m) h e f (inl g) = inl (omega arith, omega arith)
two_last (inr k) (inl m) h e f (inr g) = absurd (omega arith)
two_last (inr k) (inr m) h e f (inl g) = absurd (omega arith)
two_last (inr k) (inr m) h e f (inr g) = absurd (omega arith)

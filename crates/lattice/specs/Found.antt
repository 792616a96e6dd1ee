-- The two least of the numbers that were seen.
use Rattle.std.specs.Prelude.{◌≡◌, ℕ, ◌⊎◌, pos, ◌-ℤ◌}
use Rattle.exact.specs.Number.{ExactNumber, Positive}
use Rattle.qroot2.specs.Wide.{HasSign}
use Rattle.qroot2.specs.declared.sign.Sign.{Sign}
use Rattle.lattice.specs.declared.found.Numerators.{Numerators}
use Rattle.lattice.specs.declared.found.Found.{Found}
use Rattle.lattice.specs.declared.found.Found.TheVariants.{Nothing, One, Two}

-- ((p - k) + (q - k) √2)/d
abbrev pub value_of : ℕ → ℕ → ℕ → ℕ → ExactNumber
value_of d k p q = record { a = pos p -ℤ pos k; b = pos q -ℤ pos k; d = d }

-- the first is less than the second
pub record IsBelow (s t : Numerators) : Type 0 where
  pub below : Positive (pos t.whole -ℤ pos s.whole) (pos t.root -ℤ pos s.root)

pub record AreSameNumerators (s t : Numerators) : Type 0 where
  pub whole : s.whole ≡ t.whole
  pub root : s.root ≡ t.root

-- how s compares with t
abbrev pub IsOrder : Numerators → Numerators → Sign → Type 0
IsOrder s t answer = HasSign (pos s.whole -ℤ pos t.whole) (pos s.root -ℤ pos t.root) answer

-- found has none, the one, or the two least of the numbers of a set
abbrev pub Holds : (Numerators → Type 0) → Found → Type 0
Holds S Nothing = (s : Numerators) → S s → ⊥
Holds S (One t) = S t × ((s : Numerators) → S s → AreSameNumerators s t)
Holds S (Two t u) = S t × S u × IsBelow t u
    × ((s : Numerators) → S s → AreSameNumerators s t ⊎ (AreSameNumerators s u ⊎ IsBelow u s))

-- the second is the first with the number s
abbrev pub Inserts : Found → Numerators → Found → Type 0
Inserts Nothing s Nothing = ⊥
Inserts Nothing s (One t) = t ≡ s
Inserts Nothing s (Two t u) = ⊥
Inserts (One f) s Nothing = ⊥
Inserts (One f) s (One t) = AreSameNumerators s f × (t ≡ f)
Inserts (One f) s (Two t u) = (IsBelow s f × (t ≡ s) × (u ≡ f)) ⊎ (IsBelow f s × (t ≡ f) × (u ≡ s))
Inserts (Two f g) s Nothing = ⊥
Inserts (Two f g) s (One t) = ⊥
Inserts (Two f g) s (Two t u) = (IsBelow s f × (t ≡ s) × (u ≡ f))
    ⊎ ((IsBelow f s × IsBelow s g × (t ≡ f) × (u ≡ s))
    ⊎ ((AreSameNumerators s f ⊎ (AreSameNumerators s g ⊎ IsBelow g s)) × (t ≡ f) × (u ≡ g)))

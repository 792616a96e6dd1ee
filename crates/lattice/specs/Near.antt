-- What the search for near values answers.
use Rattle.std.specs.Prelude.{ℕ, ℤ, ◌⊎◌}
use Rattle.exact.specs.Number.{ExactNumber, Same, Less}
use Rattle.lattice.specs.Lattice.{Measures, IsNearValue}
use Rattle.lattice.specs.declared.near.Near.{Near}
use Rattle.lattice.specs.declared.near.Near.TheVariants.{Nothing, One, Two}

-- of the numbers of a set. Nothing: there is none. One: this one is, and no other. Two: these two
-- are, and each other one is above both.
abbrev pub IsAnswerOf : (ExactNumber → Type 0) → Near → Type 0
IsAnswerOf V Nothing = (v : ExactNumber) → ¬ V v
IsAnswerOf V (One u) = V u × ((v : ExactNumber) → V v → Same v u)
IsAnswerOf V (Two u w) = V u × V w × Less u w × ((v : ExactNumber) → V v → Same v u ⊎ (Same v w ⊎ Less w v))

-- of the lattice values of an axis of length m that are near the decimal of x units
abbrev pub IsAnswer : Measures → ℕ → ℤ → Near → Type 0
IsAnswer l m x = IsAnswerOf (IsNearValue l m x)

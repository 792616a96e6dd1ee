-- The pieces into which bytes are cut before it is known whether they are a decimal.
use Rattle.std.specs.Prelude.{◌≡◌, ◌≢◌, ℕ, ◌+◌, ◌-◌, ◌<◌, ◌⊎◌, Bool, true, false, List, [], ◌∷◌, ◌++◌}
use Rattle.qroot2.specs.Digits.{AllDigits}

-- the first byte is no digit, if there is one
abbrev pub EndsRun : List ℕ → Type 0
EndsRun [] = Unit {0}
EndsRun (b ∷ bytes) = (b < 48) ⊎ (57 < b)

-- the first byte is not this one, if there is one
abbrev pub BeginsNot : ℕ → List ℕ → Type 0
BeginsNot c [] = Unit {0}
BeginsNot c (b ∷ bytes) = b ≢ c

-- bytes without their sign, and whether that is a minus
abbrev pub IsUnsigned : List ℕ → Bool → List ℕ → Type 0
IsUnsigned bytes minus rest =
    ((bytes ≡ 45 ∷ rest) × (minus ≡ true))
    ⊎ (((bytes ≡ 43 ∷ rest) × (minus ≡ false))
    ⊎ ((bytes ≡ rest) × (minus ≡ false) × BeginsNot 45 rest × BeginsNot 43 rest))

-- the digits at the front, all of them, and what stands behind
pub record IsRun (bytes run rest : List ℕ) : Type 0 where
  pub whole : bytes ≡ run ++ rest
  pub digits : AllDigits run
  pub ends : EndsRun rest

-- behind a point the digits at once, and what stands behind these; without a point no digits
abbrev pub IsFraction : List ℕ → List ℕ → List ℕ → Type 0
IsFraction bytes run rest =
    ((after : List ℕ) × (bytes ≡ 46 ∷ after) × IsRun after run rest)
    ⊎ ((run ≡ []) × (bytes ≡ rest) × BeginsNot 46 rest)

-- The sign of bytes, the digits at once behind it, the digits behind a point that follows, and the rest.
pub record Cut : Type 0 where
  pub minus : Bool
  pub before : List ℕ
  pub behind : List ℕ
  pub tail : List ℕ

pub record IsCut (bytes : List ℕ) (cut : Cut) : Type 0 where
  pub plain : List ℕ
  pub rest : List ℕ
  pub unsigned : IsUnsigned bytes cut.minus plain
  pub before : IsRun plain cut.before rest
  pub behind : IsFraction rest cut.behind cut.tail

-- how many digits of a number with so many before its point count units of 10^-12 and above, where
-- it has the exponent
abbrev pub wanted_of : ℕ → Bool → ℕ → ℕ
wanted_of before true size = (before + 12) - size
wanted_of before false size = before + 12 + size

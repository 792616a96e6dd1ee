-- What was taken from a source so far, and that nothing is left.
use Rattle.std.specs.Prelude.{◌≡◌, ℕ, List, [], ◌++◌, Option, Some, None}

-- these bytes were taken from the front of a source that tells what is left
abbrev pub Gave : Option (List ℕ) → Option (List ℕ) → List ℕ → Type 0
Gave None None got = Unit {0}
Gave None (Some new) got = ⊥
Gave (Some old) None got = ⊥
Gave (Some old) (Some new) got = old ≡ got ++ new

-- nothing is left
abbrev pub IsSpent : Option (List ℕ) → Type 0
IsSpent None = Unit {0}
IsSpent (Some left) = left ≡ []

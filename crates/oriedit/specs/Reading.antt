-- What a reading of the whole input does to its source.
use Rattle.std.specs.Prelude.{◌≡◌, ℕ, ◌<◌, ◌≤◌, List, length, Option, Result, Ok, Err}
use Rattle.ports.specs.Taken.{Gave, IsSpent}
use Rattle.oriedit.specs.declared.reading.ReadEnd.{ReadEnd}
use Rattle.oriedit.specs.declared.reading.ReadEnd.TheVariants.{Failed, TooLong, NoMemory}

-- what a reading up to a limit did to the source
abbrev pub ReadsAll : {A : Type 0} → (A → List ℕ) → ℕ → Option (List ℕ) → Option (List ℕ) → Result A ReadEnd
    → Type 0
ReadsAll items limit old new (Ok v) = Gave old new (items v) × IsSpent new × (length (items v) < limit)
ReadsAll items limit old new (Err Failed) = (got : List ℕ) × Gave old new got × (length got < limit)
ReadsAll items limit old new (Err TooLong) = (got : List ℕ) × Gave old new got × (length got ≡ limit)
ReadsAll items limit old new (Err NoMemory) = (got : List ℕ) × Gave old new got × (length got ≤ limit)

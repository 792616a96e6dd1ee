-- Histories: the deltas that were taken, and those that were taken back.
use Rattle.std.specs.Prelude.{◌≡◌, ◌+◌, ◌-◌, ◌≤◌, List, [], ◌∷◌, ◌++◌, length, drop}
use Rattle.pattern.specs.declared.delta.Delta.{Delta}

-- The past is oldest first, the future next first.
pub record ExactHistory : Type 0 where
  pub past : List Delta
  pub future : List Delta

-- there are at most a thousand deltas in all
abbrev pub IsHistory : ExactHistory → Type 0
IsHistory history = length history.past + length history.future ≤ 1000

-- the last thousand of these deltas, or all where there are fewer
abbrev pub last_thousand : List Delta → List Delta
last_thousand deltas = drop (length deltas - 1000) deltas

-- The delta is the last one of the past, nothing is to be redone, and only the last thousand are kept.
abbrev pub pushed : ExactHistory → Delta → ExactHistory
pushed history delta = record { past = last_thousand (history.past ++ delta ∷ []); future = [] }

-- The earlier history is the later one with its last delta taken back: it is the next to come.
pub record IsBack (later earlier : ExactHistory) : Type 0 where
  pub delta : Delta
  pub past : later.past ≡ earlier.past ++ delta ∷ []
  pub future : earlier.future ≡ delta ∷ later.future

-- the delta stands at the end of these
abbrev pub IsLast : List Delta → Delta → Type 0
IsLast deltas delta = (others : List Delta) × (deltas ≡ others ++ delta ∷ [])

-- the delta stands at the front of these
abbrev pub IsFirst : List Delta → Delta → Type 0
IsFirst deltas delta = (others : List Delta) × (deltas ≡ delta ∷ others)

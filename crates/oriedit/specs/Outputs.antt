-- What was written to a sink.
use Rattle.std.specs.Prelude.{◌≡◌, ℕ, List, ◌++◌, Option, Some, None}
use Rattle.ports.specs.Streams.{IsFront}

-- a sink that tells what it holds gained this text and nothing else
abbrev pub Gained : Option (List ℕ) → Option (List ℕ) → List ℕ → Type 0
Gained None None text = Unit {0}
Gained None (Some now) text = ⊥
Gained (Some held) None text = ⊥
Gained (Some held) (Some now) text = now ≡ held ++ text

-- it gained a front of this text
abbrev pub GainedFront : Option (List ℕ) → Option (List ℕ) → List ℕ → Type 0
GainedFront held now text = (part : List ℕ) × IsFront part text × Gained held now part

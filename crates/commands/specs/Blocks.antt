-- What adding a text to a block does, the bytes of which go to a sink when the block is full.
use Rattle.std.specs.Prelude.{◌≡◌, ℕ, List, ◌++◌, flat_map, Option, Some, None, Result, Ok, Err}
use Rattle.std.specs.Borrow.{Bor}
use Rattle.ports.specs.Streams.{IsFront}

-- the texts of the pieces, one after another
abbrev pub joined : List (Bor (List ℕ)) → List ℕ
joined pieces = flat_map (λ piece. piece.now) pieces

-- a sink that tells what it holds gained a part of the block and the text, and the block has the rest of them
abbrev pub Added : Option (List ℕ) → List ℕ → Option (List ℕ) → List ℕ → List ℕ → Type 0
Added None block None rest text = Unit {0}
Added None block (Some new) rest text = ⊥
Added (Some old) block None rest text = ⊥
Added (Some old) block (Some new) rest text =
    (part : List ℕ) × (new ≡ old ++ part) × (part ++ rest ≡ block ++ text)

-- it gained a front of them
abbrev pub Broken : Option (List ℕ) → List ℕ → Option (List ℕ) → List ℕ → Type 0
Broken None block None text = Unit {0}
Broken None block (Some new) text = ⊥
Broken (Some old) block None text = ⊥
Broken (Some old) block (Some new) text = (part : List ℕ) × IsFront part (block ++ text) × (new ≡ old ++ part)

-- the text is added, or a fault comes
abbrev pub Adds : {T E : Type 0} → Option (List ℕ) → List ℕ → Option (List ℕ) → List ℕ → List ℕ → Result T E
    → Type 0
Adds old block new rest text (Ok x) = Added old block new rest text
Adds old block new rest text (Err e) = Broken old block new text

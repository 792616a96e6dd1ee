-- What the reader of a delta's text finds at the front of the bytes.
use Rattle.std.specs.Prelude.{◌≡◌, ◌≢◌, ℕ, ◌≤◌, List, ◌∷◌, ◌++◌, length, drop, Option}
use Rattle.exact.specs.Plane.{ExactSegment}
use Rattle.plane.specs.Segments.{IsHeld}
use Rattle.sheet.specs.Pattern.{ExactCrease}
use Rattle.pattern.specs.NativeReading.{IsAfterLast}
use Rattle.pattern.specs.NativeReader.{IsLast}
use Rattle.pattern.specs.DeltaText.{entry_text, entries_text, IsListing}

-- the bytes do not begin with the sign
abbrev pub EndsFor : ℕ → List ℕ → Type 0
EndsFor sign bytes = (after : List ℕ) → bytes ≢ sign ∷ after

-- the bytes begin with the entries of these creases under the sign, and no further entry follows
pub record IsEntries (sign : ℕ) (bytes : List ℕ) (creases : List ExactCrease) (rest : List ℕ) : Type 0 where
  pub listing : IsListing creases
  pub text : bytes ≡ entries_text sign creases ++ rest
  pub ends : EndsFor sign rest

-- the bytes begin with this crease's entry, which can follow these creases
pub record IsEntry (sign : ℕ) (bytes : List ℕ) (creases : List ExactCrease) (f : ExactCrease)
    (rest : List ℕ) : Type 0 where
  pub held : IsHeld f.seg
  pub after : IsAfterLast creases f.seg
  pub text : bytes ≡ entry_text sign f ++ rest

-- the creases are those of the entries before this place, and this is the last segment of them
pub record AreReadUpTo (sign : ℕ) (bytes : List ℕ) (at : ℕ) (creases : List ExactCrease)
    (last : Option ExactSegment) : Type 0 where
  pub within : at ≤ length bytes
  pub listing : IsListing creases
  pub ending : IsLast last creases
  pub text : bytes ≡ entries_text sign creases ++ drop at bytes

-- The text of a delta: a line for each crease, the removed ones before the added ones.
use Rattle.std.specs.Prelude.{◌≡◌, ℕ, List, [], ◌∷◌, ◌++◌, All}
use Rattle.plane.specs.Segments.{IsHeld}
use Rattle.sheet.specs.Pattern.{ExactCrease}
use Rattle.creases.specs.Creases.{Ascends}
use Rattle.pattern.specs.NativeText.{line_text}
use Rattle.pattern.specs.declared.delta.Delta.{Delta}

-- the signs of a removed crease and of an added one
abbrev pub minus_sign : ℕ
minus_sign = 45

abbrev pub plus_sign : ℕ
plus_sign = 43

-- a sign, a space and the crease's native line
abbrev pub entry_text : ℕ → ExactCrease → List ℕ
entry_text sign f = sign ∷ 32 ∷ line_text f.colour f.seg.p f.seg.q

abbrev pub entries_text : ℕ → List ExactCrease → List ℕ
entries_text sign [] = []
entries_text sign (f ∷ creases) = entry_text sign f ++ entries_text sign creases

abbrev pub delta_text : Delta → List ℕ
delta_text delta = entries_text minus_sign delta.removed ++ entries_text plus_sign delta.added

-- the segments ascend, and have ends in lowest terms and within the limits
pub record IsListing (creases : List ExactCrease) : Type 0 where
  pub held : All (λ f. IsHeld f.seg) creases
  pub ascends : Ascends creases

-- the bytes are the text of this delta, whose lists ascend
pub record IsDeltaText (bytes : List ℕ) (delta : Delta) : Type 0 where
  pub removed : IsListing delta.removed
  pub added : IsListing delta.added
  pub text : bytes ≡ delta_text delta

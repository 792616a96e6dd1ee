-- What reading bytes as a point answers, by the texts of its two numbers.
use Rattle.std.specs.Prelude.{◌≡◌, ℕ, List, ◌∷◌, ◌++◌, ◌⊎◌, Result, Ok, Err}
use Rattle.exact.specs.Number.{ExactNumber}
use Rattle.exact.specs.Plane.{ExactPoint, IsPointCanonical}
use Rattle.qroot2.specs.Text.{Reads}
use Rattle.qroot2.specs.Digits.{Lacks}
use Rattle.qroot2.specs.declared.text.NumText.{NumText}
use Rattle.qroot2.specs.declared.text.NumText.TheVariants.{Syntax}
use Rattle.plane.specs.PointText.{point_text}

-- front stands before the first comma, and back behind it
pub record IsCutAtComma (bytes front back : List ℕ) : Type 0 where
  pub first : Lacks 44 front
  pub whole : bytes ≡ front ++ 44 ∷ back

-- Ok: the bytes are the text of the point. Otherwise there is no comma, which is Syntax, or the
-- answer is that of the part before the comma where it is refused, and else that of the part behind
-- it.
abbrev pub ReadsPoint : List ℕ → Result ExactPoint NumText → Type 0
ReadsPoint bytes (Ok p) = IsPointCanonical p × (point_text p ≡ bytes)
ReadsPoint bytes (Err e) =
    (Lacks 44 bytes × (e ≡ Syntax))
    ⊎ ((front : List ℕ) × (back : List ℕ) × IsCutAtComma bytes front back
    × (Reads front (Err e) ⊎ ((x : ExactNumber) × Reads front (Ok x) × Reads back (Err e))))

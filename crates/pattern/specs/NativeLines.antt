-- What the reading of an end and of a line of native text answers.
use Rattle.std.specs.Prelude.{◌≡◌, ◌≢◌, ℕ, List, Result, Ok, Err}
use Rattle.exact.specs.Plane.{ExactPoint, IsPointCanonical}
use Rattle.sheet.specs.declared.colour.Colour.{Colour}
use Rattle.plane.specs.PointText.{point_text}
use Rattle.pattern.specs.NativeText.{crease_text}
use Rattle.pattern.specs.NativeReading.{IsPointSpelled, AreHeld}
use Rattle.qroot2.specs.declared.text.NumText.{NumText}
use Rattle.qroot2.specs.declared.text.NumText.TheVariants.{Syntax, Range}

-- two answers together, where no text goes before out of range
abbrev pub both_of : {A : Type 0} → Result A NumText → Result A NumText → Result (A × A) NumText
both_of (Ok x) (Ok y) = Ok (x, y)
both_of (Ok x) (Err e) = Err e
both_of (Err Syntax) s = Err Syntax
both_of (Err Range) (Ok y) = Err Range
both_of (Err Range) (Err e) = Err e

-- the text of an end
abbrev pub ReadsEnd : List ℕ → Result ExactPoint NumText → Type 0
ReadsEnd bytes (Ok p) = (bytes ≡ point_text p) × IsPointCanonical p
ReadsEnd bytes (Err Syntax) = (p : ExactPoint) → IsPointSpelled p → bytes ≢ point_text p
ReadsEnd bytes (Err Range) = (p : ExactPoint) × IsPointSpelled p × (bytes ≡ point_text p)
    × (¬ IsPointCanonical p)

-- a line without its line feed
abbrev pub body_text : Colour → ExactPoint → ExactPoint → List ℕ
body_text c p q = crease_text (record { seg = record { p = p; q = q }; colour = c })

abbrev pub IsNoBody : List ℕ → Type 0
IsNoBody bytes = (c : Colour) (p q : ExactPoint) → IsPointSpelled p → IsPointSpelled q
    → bytes ≢ body_text c p q

abbrev pub IsWideBody : List ℕ → Type 0
IsWideBody bytes = (c : Colour) × (p q : ExactPoint) × IsPointSpelled p × IsPointSpelled q
    × (bytes ≡ body_text c p q) × (¬ AreHeld p q)

-- Which bytes are the native text of a pattern, and which line of the others is bad, and why.
use Rattle.std.specs.Prelude.{◌≡◌, ◌≢◌, ℕ, ◌+◌, ◌<◌, ◌≤◌, ◌⊎◌, List, [], ◌∷◌, ◌++◌, length, All, Result, Ok}
use Rattle.std.specs.Prelude.{Err}
use Rattle.ports.specs.declared.stop.Stop.{Stop}
use Rattle.ports.specs.declared.stop.Stop.TheVariants as stop
use Rattle.exact.specs.Number.{ExactNumber, IsLowest}
use Rattle.exact.specs.Plane.{ExactPoint, ExactSegment, IsSegment, Before, SegmentBefore, Overlap}
use Rattle.exact.specs.Plane.{IsPointCanonical}
use Rattle.qroot2.specs.Text.{IsWithinLimits}
use Rattle.sheet.specs.Sheet.{ExactSheet, IsSheet, InSheet, OnBorder}
use Rattle.sheet.specs.Pattern.{ExactCrease, ExactPattern, IsPattern, crease_limit}
use Rattle.sheet.specs.declared.colour.Colour.{Colour}
use Rattle.pattern.specs.NativeText.{line_text, header, pattern_text}
use Rattle.pattern.specs.declared.native.PatternBad.{PatternBad}
use Rattle.pattern.specs.declared.native.PatternWhy.{PatternWhy}
use Rattle.pattern.specs.declared.native.PatternWhy.TheVariants as why

-- its text has the form of a number, and the number is in lowest terms or out of range
pub record IsSpelled (x : ExactNumber) : Type 0 where
  pub some : 1 ≤ x.d
  pub lowest : IsWithinLimits x → IsLowest x

pub record IsPointSpelled (p : ExactPoint) : Type 0 where
  pub x : IsSpelled p.x
  pub y : IsSpelled p.y

-- the bytes begin with a line of the form of a crease's, and its numbers are such
pub record BeginsWith (bytes : List ℕ) (c : Colour) (p q : ExactPoint) (after : List ℕ) : Type 0 where
  pub text : bytes ≡ line_text c p q ++ after
  pub from : IsPointSpelled p
  pub to : IsPointSpelled q

abbrev pub AreHeld : ExactPoint → ExactPoint → Type 0
AreHeld p q = IsPointCanonical p × IsPointCanonical q

-- the segment comes after the one of the line before, if there is one
abbrev pub IsAfterLast : List ExactCrease → ExactSegment → Type 0
IsAfterLast good s = (front : List ExactCrease) (last : ExactCrease) → good ≡ front ++ last ∷ []
    → SegmentBefore last.seg s

-- the segment passes the test of this number, after these creases
abbrev pub Passes : PatternWhy → ExactPattern → ExactSegment → Type 0
Passes why.Line good s = Unit {0}
Passes why.Range good s = AreHeld s.p s.q
Passes why.Outside good s = InSheet good.sheet s.p × InSheet good.sheet s.q
Passes why.Order good s = Before s.p s.q × IsAfterLast good.creases s
Passes why.NotDirection good s = IsSegment s
Passes why.OnBorder good s = ¬ OnBorder good.sheet s
Passes why.Overlap good s = All (λ f. ¬ Overlap f.seg s) good.creases
Passes why.TooMany good s = length good.creases < crease_limit

-- the tests before this one, in order
abbrev pub PassesBefore : PatternWhy → ExactPattern → ExactSegment → Type 0
PassesBefore why.Line good s = Unit {0}
PassesBefore why.Range good s = Unit {0}
PassesBefore why.Outside good s = Passes why.Range good s
PassesBefore why.Order good s = Passes why.Range good s × Passes why.Outside good s
PassesBefore why.NotDirection good s = Passes why.Range good s × Passes why.Outside good s
    × Passes why.Order good s
PassesBefore why.OnBorder good s = Passes why.Range good s × Passes why.Outside good s
    × Passes why.Order good s × Passes why.NotDirection good s
PassesBefore why.Overlap good s = Passes why.Range good s × Passes why.Outside good s
    × Passes why.Order good s × Passes why.NotDirection good s × Passes why.OnBorder good s
PassesBefore why.TooMany good s = Passes why.Range good s × Passes why.Outside good s
    × Passes why.Order good s × Passes why.NotDirection good s × Passes why.OnBorder good s
    × Passes why.Overlap good s

-- the least test that the first line of the bytes fails, after lines that are this pattern
abbrev pub Fails : PatternWhy → ExactPattern → List ℕ → Type 0
Fails why.Line good bytes = (c : Colour) (p q : ExactPoint) (after : List ℕ) → ¬ BeginsWith bytes c p q after
Fails w good bytes = (c : Colour) × (p q : ExactPoint) × (after : List ℕ) × BeginsWith bytes c p q after
    × PassesBefore w good (record { p = p; q = q }) × (¬ Passes w good (record { p = p; q = q }))

-- The lines before the bad one are those of a pattern; its sheet is line 1, and its first crease line 2.
pub record IsBadAfter (bytes : List ℕ) (good : ExactPattern) (rest : List ℕ) (bad : PatternBad) : Type 0 where
  pub pattern : IsPattern good
  pub text : bytes ≡ pattern_text good ++ rest
  pub more : rest ≢ []
  pub line : bad.line ≡ length good.creases + 2
  pub why : Fails bad.why good rest

-- no sheet's line is at the front of the bytes
abbrev pub HasNoHeader : List ℕ → Type 0
HasNoHeader bytes = (sheet : ExactSheet) → IsSheet sheet → (rest : List ℕ) → bytes ≢ header sheet ++ rest

-- the first bad line, and on it the least number that applies
abbrev pub IsRefused : List ℕ → PatternBad → Type 0
IsRefused bytes bad =
    (HasNoHeader bytes × (bad.line ≡ 1) × (bad.why ≡ why.Line))
    ⊎ ((good : ExactPattern) × (rest : List ℕ) × IsBadAfter bytes good rest bad)

-- the bytes are the text of this pattern
abbrev pub IsRead : List ℕ → ExactPattern → Type 0
IsRead bytes pattern = IsPattern pattern × (bytes ≡ pattern_text pattern)

-- What the reading of these bytes answers. Want of memory is free.
abbrev pub ReadsPattern : List ℕ → Result ExactPattern (Stop PatternBad) → Type 0
ReadsPattern bytes (Ok pattern) = IsRead bytes pattern
ReadsPattern bytes (Err (stop.Why bad)) = IsRefused bytes bad
ReadsPattern bytes (Err stop.NoMemory) = Unit {0}

-- What the reader of native text keeps while it goes from line to line.
use Rattle.std.specs.Prelude.{◌≡◌, ℕ, ◌+◌, ◌<◌, ◌≤◌, List, [], ◌∷◌, ◌++◌, length, drop, Option, Some, None}
use Rattle.std.specs.Prelude.{Result, Ok, Err}
use Rattle.exact.specs.Plane.{ExactSegment}
use Rattle.plane.specs.Support.{ExactLine, IsSupportOf}
use Rattle.ports.specs.declared.stop.Stop.{Stop}
use Rattle.ports.specs.declared.stop.Stop.TheVariants as stop
use Rattle.sheet.specs.Sheet.{ExactSheet, IsSheet}
use Rattle.sheet.specs.Pattern.{ExactCrease, ExactPattern, IsPattern}
use Rattle.pattern.specs.NativeText.{line_text, header}
use Rattle.pattern.specs.NativeReading.{Passes, PassesBefore, Fails}
use Rattle.pattern.specs.declared.native.PatternWhy.{PatternWhy}
use Rattle.pattern.specs.declared.native.PatternWhy.TheVariants as why

-- the line of a sheet is at the front of the bytes, and so long
pub record HasHeader (bytes : List ℕ) (sheet : ExactSheet) (n : ℕ) : Type 0 where
  pub sheet_is : IsSheet sheet
  pub within : n ≤ length bytes
  pub text : bytes ≡ header sheet ++ drop n bytes

abbrev pub on : ExactSheet → List ExactCrease → ExactPattern
on sheet creases = record { sheet = sheet; creases = creases }

-- the pattern with one crease more, which comes last
abbrev pub with_last : ExactPattern → ExactCrease → ExactPattern
with_last good f = on good.sheet (good.creases ++ f ∷ [])

-- the segment of the last crease
abbrev pub IsLast : Option ExactSegment → List ExactCrease → Type 0
IsLast None good = good ≡ []
IsLast (Some s) good = (front : List ExactCrease) × (f : ExactCrease) × (good ≡ front ++ f ∷ []) × (f.seg ≡ s)

-- the segment passes the tests up to OnBorder
abbrev pub CanFollow : ExactPattern → ExactSegment → Type 0
CanFollow good s = PassesBefore why.Overlap good s

-- the least of these tests that s fails after the creases, or s itself and the line on which it lies
abbrev pub PlacesLine : ExactPattern → ExactSegment → Result (ExactSegment × ExactLine) PatternWhy → Type 0
PlacesLine good s (Ok t) = (t.0 ≡ s) × CanFollow good s × IsSupportOf t.0 t.1
PlacesLine good s (Err w) = PassesBefore w good s × (¬ Passes w good s) × (w ≡ why.Line → ⊥)

pub record IsReading (good : ExactPattern) (end : Option ExactSegment) : Type 0 where
  pub pattern : IsPattern good
  pub last : IsLast end good.creases

-- a crease that passes the last two tests too is the last one now
abbrev pub KeepsCrease : ExactPattern → ExactCrease → ExactPattern → Option ExactSegment
    → Result (Unit {0}) (Stop PatternWhy) → Type 0
KeepsCrease good f now last (Ok x) = (now ≡ with_last good f) × IsReading now last
KeepsCrease good f now last (Err (stop.Why w)) = PassesBefore w good f.seg × (¬ Passes w good f.seg)
    × (w ≡ why.Line → ⊥) × (now ≡ good)
KeepsCrease good f now last (Err stop.NoMemory) = Unit {0}

-- a line that was read: the bytes begin with it, and its crease is the last one now
pub record IsTaken (good : ExactPattern) (bytes : List ℕ) (now : ExactPattern) (length_of : ℕ) : Type 0 where
  pub crease : ExactCrease
  pub after : List ℕ
  pub text : bytes ≡ line_text crease.colour crease.seg.p crease.seg.q ++ after
  pub long : length after + length_of ≡ length bytes
  pub some : 0 < length_of
  pub more : now ≡ with_last good crease

abbrev pub TakesLine : ExactPattern → List ℕ → ExactPattern → Option ExactSegment
    → Result ℕ (Stop PatternWhy) → Type 0
TakesLine good bytes now last (Ok n) = IsTaken good bytes now n × IsReading now last
TakesLine good bytes now last (Err (stop.Why w)) = Fails w good bytes × (now ≡ good)
TakesLine good bytes now last (Err stop.NoMemory) = Unit {0}

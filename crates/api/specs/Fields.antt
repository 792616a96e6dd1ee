-- What the fields of a head say so far, one after another.
use Rattle.std.specs.Prelude.{◌≡◌, ◌≢◌, ℕ, List, [], length, map, All}
use Rattle.std.specs.Str.Parse.{IsNumeral}
use Rattle.httparse.specs.Spans.{IsHeaderWithin, header_bytes}
use Rattle.httparse.specs.declared.spans.HeaderSpan.{HeaderSpan}
use Rattle.api.specs.declared.lengths.Length.{Length}
use Rattle.api.specs.declared.lengths.Length.TheVariants.{Absent, Given, Wrong}
use Rattle.api.specs.Lengths.{AreLengths}

-- the spans lie in the bytes
abbrev pub AreWithin : List ℕ → List HeaderSpan → Type 0
AreWithin bytes fields = All (IsHeaderWithin (length bytes)) fields

-- the names and the values that the spans cover
abbrev pub pairs : List ℕ → List HeaderSpan → List (List ℕ × List ℕ)
pairs bytes fields = map (header_bytes bytes) fields

-- none of these values, all the same digit string, or not so
abbrev pub IsLength : List (List ℕ) → Length → Type 0
IsLength texts Absent = texts ≡ []
IsLength texts (Given digits) = (texts ≢ []) × IsNumeral 10 digits.now × All (λ text. text ≡ digits.now) texts
IsLength texts Wrong = ¬ AreLengths texts

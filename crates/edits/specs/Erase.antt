-- Taking creases away along a segment.
use Rattle.std.specs.Prelude.{List, Contains, Result}
use Rattle.exact.specs.Plane.{ExactSegment, Overlap}
use Rattle.sheet.specs.Pattern.{ExactCrease}
use Rattle.edits.specs.Rules.{Gives, Unless, Then}
use Rattle.edits.specs.CreaseSet.{AreCreases}
use Rattle.edits.specs.Drawn.{IsLeft, Counted}
use Rattle.edits.specs.declared.refusal.EditBad.{EditBad}
use Rattle.edits.specs.declared.refusal.EditBad.TheVariants as bad

-- no crease overlaps s
abbrev pub IsBare : List ExactCrease → ExactSegment → Type 0
IsBare creases s = (f : ExactCrease) → Contains creases f → ¬ Overlap f.seg s

-- what is left beside s, where some crease overlaps s
abbrev pub Erased : List ExactCrease → ExactSegment → Result (List ExactCrease) EditBad → Type 0
Erased creases s = Unless (IsBare creases s) bad.NoCrease
    (Then (Gives (AreCreases (IsLeft creases s))) Counted)

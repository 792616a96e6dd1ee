-- The sides of the sheet and the creases, which a ray meets.
use Rattle.std.specs.Prelude.{◌≡◌, ◌⊎◌, List, Contains}
use Rattle.exact.specs.Plane.{ExactPoint, ExactSegment, OnSeg}
use Rattle.sheet.specs.Sheet.{sides}
use Rattle.sheet.specs.Pattern.{ExactCrease, ExactPattern}

-- s is that of a crease
abbrev pub IsCrease : List ExactCrease → ExactSegment → Type 0
IsCrease creases s = (f : ExactCrease) × Contains creases f × (f.seg ≡ s)

-- s is a side of the sheet or that of a crease
abbrev pub IsSideOrCrease : ExactPattern → ExactSegment → Type 0
IsSideOrCrease pattern s = Contains (sides pattern.sheet) s ⊎ IsCrease pattern.creases s

-- r is on a side or a crease
abbrev pub OnSideOrCrease : ExactPattern → ExactPoint → Type 0
OnSideOrCrease pattern r = (s : ExactSegment) × IsSideOrCrease pattern s × OnSeg r s

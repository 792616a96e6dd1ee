-- What the sweep has found: points, each with its number, cuts, and the least pair that is out of range.
use Rattle.std.specs.Prelude.{◌≡◌, ◌≢◌, ℕ, ◌+◌, ◌*◌, ◌<◌, ◌≤◌, ◌⊎◌, List, Option, None, Some, length, true, false}
use Rattle.std.specs.Prelude.{[], ◌∷◌, ◌++◌, All, Contains, slice_get}
use Rattle.exact.specs.Plane.{ExactPoint, ExactSegment, SamePoint, OnSeg, OnBoth, Cross, IsPointCanonical}
use Rattle.exact.specs.Plane.{IsPointRepresentable}
use Rattle.chains.specs.Chains.{Ascends}
use Rattle.plane.specs.Order.{point_cmp}
use Rattle.forms.specs.Common.{IsSmall}
use Rattle.subdivide.specs.Subdivision.{vertex_limit}
use Rattle.subdivide.specs.Touch.{IsEndOf, CrossesOut, IsTouch}
use Rattle.subdivide.specs.declared.line.End.{End}
use Rattle.subdivide.specs.declared.line.End.TheVariants as end
use Rattle.subdivide.specs.declared.line.MarkedLine.{MarkedLine}
use Rattle.subdivide.specs.declared.touch.Touch.{Touch}
use Rattle.subdivide.specs.declared.found.Cut.{Cut}
use Rattle.subdivide.specs.declared.found.Pair.{Pair}
use Rattle.subdivide.specs.declared.found.Found.{Found}

pub record Findings : Type 0 where
  pub points : List ExactPoint
  pub cuts : List Cut
  pub least : Option Pair

-- a line is cut at v, by the number of a point that is v
pub record IsCutAt (points : List ExactPoint) (cuts : List Cut) (line : ℕ) (v : ExactPoint) : Type 0 where
  pub point : ℕ
  pub value : ExactPoint
  pub cut : Contains cuts (record { line = line; point = point })
  pub stands : slice_get points point ≡ Some value
  pub same : SamePoint v value

-- the cut names a line and a point on it
pub record IsCutOf (lines : List MarkedLine) (points : List ExactPoint) (cut : Cut) : Type 0 where
  pub line : MarkedLine
  pub point : ExactPoint
  pub is : slice_get lines cut.line ≡ Some line
  pub stands : slice_get points cut.point ≡ Some point
  pub on : OnSeg point line.seg

-- v is an end of a line, or the crossing of two
abbrev pub IsPlace : List MarkedLine → ExactPoint → Type 0
IsPlace lines v =
    ((l : MarkedLine) × Contains lines l × IsEndOf v l.seg)
    ⊎ ((l m : MarkedLine) × Contains lines l × Contains lines m × Cross l.seg m.seg v)

-- the least of the pairs comes not after the pair of i and j
abbrev pub IsAtMost : Option Pair → ℕ → ℕ → Type 0
IsAtMost None i j = ⊥
IsAtMost (Some p) i j = (p.first < i) ⊎ ((p.first ≡ i) × (p.second ≤ j))

-- the pair is out of range
pub record IsOut (lines : List MarkedLine) (p : Pair) : Type 0 where
  pub first : MarkedLine
  pub second : MarkedLine
  pub is_first : slice_get lines p.first ≡ Some first
  pub is_second : slice_get lines p.second ≡ Some second
  pub ordered : p.first < p.second
  pub out : CrossesOut first.seg second.seg

-- the ends of line i are the points 2 i and 2 i + 1, and cut it
pub record HasEnds (f : Findings) (i : ℕ) (s : ExactSegment) : Type 0 where
  pub from : slice_get f.points (2 * i) ≡ Some s.p
  pub to : slice_get f.points (2 * i + 1) ≡ Some s.q
  pub cut_from : Contains f.cuts (record { line = i; point = 2 * i })
  pub cut_to : Contains f.cuts (record { line = i; point = 2 * i + 1 })

-- what is found is true of the lines, and the ends are found
pub record IsSound (lines : List MarkedLine) (f : Findings) : Type 0 where
  pub canonical : All IsPointCanonical f.points
  pub points : All (IsPlace lines) f.points
  pub cuts : All (IsCutOf lines f.points) f.cuts
  pub ends : (i : ℕ) (l : MarkedLine) → slice_get lines i ≡ Some l → HasEnds f i l.seg
  pub least : (p : Pair) → f.least ≡ Some p → IsOut lines p

-- each point that lines i and j, of these segments, have in common cuts both, or a pair that comes not after
-- them is out of range
pub record Settled (f : Findings) (i j : ℕ) (s t : ExactSegment) : Type 0 where
  pub each : (v : ExactPoint) → OnBoth v s t
      → (IsCutAt f.points f.cuts i v × IsCutAt f.points f.cuts j v)
      ⊎ IsAtMost f.least i j

-- nothing that was found is lost
pub record Grows (old new : Findings) : Type 0 where
  pub points : (k : ℕ) (v : ExactPoint) → slice_get old.points k ≡ Some v → slice_get new.points k ≡ Some v
  pub cuts : (c : Cut) → Contains old.cuts c → Contains new.cuts c
  pub least : (i j : ℕ) → IsAtMost old.least i j → IsAtMost new.least i j

-- there are more different points than vertices are allowed
pub record AreMany (points : List ExactPoint) : Type 0 where
  pub some : List ExactPoint
  pub ascends : Ascends point_cmp some
  pub within : (v : ExactPoint) → Contains some v → Contains points v
  pub many : vertex_limit < length some

-- what is kept of the findings: all of them, unless there are too many points
pub record IsKept (lines : List MarkedLine) (f : Findings) (found : Found) : Type 0 where
  pub sound : IsSound lines f
  pub least : found.least ≡ f.least
  pub points : found.full ≡ false → found.points.items ≡ f.points
  pub cuts : found.full ≡ false → found.cuts.items ≡ f.cuts
  pub many : found.full ≡ true → AreMany f.points

-- what is found grows so that P holds of it
pub record Leads (lines : List MarkedLine) (old new : Found) (P : Findings → Type 0) : Type 0 where
  pub each : (f : Findings) → IsKept lines f old → (g : Findings) × IsKept lines g new × Grows f g × P g

-- what comes of a pair of lines, the first before the second, that have this in common
pub record IsNoted (first second : ℕ) (touch : Touch) (old new : Found) : Type 0 where
  pub leads : (lines : List MarkedLine) (l m : MarkedLine) → first < second → slice_get lines first ≡ Some l
      → slice_get lines second ≡ Some m → IsTouch l.seg m.seg touch
      → Leads lines old new (λ f. Settled f first second l.seg m.seg)

-- line n is settled with each of these
abbrev pub AreSettled : List MarkedLine → ℕ → List ℕ → Findings → Type 0
AreSettled lines n near f = (i : ℕ) (l m : MarkedLine) → Contains near i → slice_get lines i ≡ Some l
    → slice_get lines n ≡ Some m → Settled f i n l.seg m.seg

-- each two of the first n lines are settled
abbrev pub AreSettledBefore : List MarkedLine → ℕ → Findings → Type 0
AreSettledBefore lines n f = (i j : ℕ) (l m : MarkedLine) → i < j → j < n → slice_get lines i ≡ Some l
    → slice_get lines j ≡ Some m → Settled f i j l.seg m.seg

-- the first n lines have been swept
pub record IsSweptUpTo (lines : List MarkedLine) (n : ℕ) (found : Found) : Type 0 where
  pub findings : Findings
  pub kept : IsKept lines findings found
  pub settled : AreSettledBefore lines n findings

-- each line begins at a point that is small over d
pub record AreSmall (d : ℕ) (lines : List MarkedLine) : Type 0 where
  pub each : (i : ℕ) (l : MarkedLine) → slice_get lines i ≡ Some l → IsSmall d l.seg.p

-- each common point of two lines of different directions can be held
pub record AreHeld (lines : List MarkedLine) : Type 0 where
  pub each : (i j : ℕ) (l m : MarkedLine) (v : ExactPoint) → slice_get lines i ≡ Some l → slice_get lines j ≡ Some m
      → l.dir ≢ m.dir → OnBoth v l.seg m.seg → IsPointRepresentable v

-- the number of a point that is an end of a line
abbrev pub number_of : ℕ → End → ℕ
number_of line end.Lesser = 2 * line
number_of line end.Greater = 2 * line + 1

-- the ends of the first n lines, and no other points
pub record HoldEnds (lines : List MarkedLine) (n : ℕ) (found : Found) : Type 0 where
  pub many : length found.points.items ≡ 2 * n
  pub canonical : All IsPointCanonical found.points.items
  pub points : All (IsPlace lines) found.points.items
  pub cuts : All (IsCutOf lines found.points.items) found.cuts.items
  pub ends : (i : ℕ) (l : MarkedLine) → i < n → slice_get lines i ≡ Some l
      → HasEnds (record { points = found.points.items; cuts = found.cuts.items; least = None }) i l.seg
  pub least : found.least ≡ None
  pub full : found.full ≡ false

-- the line is cut at the point, unless no more is kept
pub record IsWithCut (line point : ℕ) (old new : Found) : Type 0 where
  pub points : new.points ≡ old.points
  pub least : new.least ≡ old.least
  pub full : new.full ≡ old.full
  pub cuts : old.full ≡ false → new.cuts.items ≡ old.cuts.items ++ record { line = line; point = point } ∷ []

-- The segment along a ray to the first crease or side.
use Rattle.std.specs.Prelude.{ℕ, List, Result}
use Rattle.exact.specs.Plane.{ExactPoint, ExactSegment, IsPointCanonical, IsPointRepresentable}
use Rattle.sheet.specs.Sheet.{InSheet}
use Rattle.sheet.specs.Pattern.{ExactCrease, ExactPattern}
use Rattle.geometry.specs.Rays.{OnRay, RunsAlong, MeetsRay}
use Rattle.plane.specs.Walls.{MissesInside}
use Rattle.edits.specs.Rules.{Gives, Unless}
use Rattle.edits.specs.Ends.{Joins}
use Rattle.edits.specs.SidesAndCreases.{IsCrease, IsSideOrCrease, OnSideOrCrease}
use Rattle.edits.specs.declared.refusal.EditBad.{EditBad}
use Rattle.edits.specs.declared.refusal.EditBad.TheVariants as bad
use Rattle.edits.specs.declared.refusal.PointKind.TheVariants as point

-- a crease runs along the ray from its start on
abbrev pub IsCovered : List ExactCrease → ExactPoint → ℕ → Type 0
IsCovered creases at k = (s : ExactSegment) × IsCrease creases s × RunsAlong at k s

-- The ray meets a side or a crease in exactly one point, and that point cannot be held. It may lie
-- behind the first point that the ray meets. A crease has no point outside the sheet, so only the
-- part of the ray in the sheet meets creases.
abbrev pub MeetsOutOfRange : ExactPattern → ExactPoint → ℕ → Type 0
MeetsOutOfRange pattern at k =
    (s : ExactSegment) × IsSideOrCrease pattern s
    × ((v : ExactPoint) × MeetsRay at k s v × (¬ IsPointRepresentable v))

-- e is the first point of the ray on a side or a crease
pub record IsFirstMet (pattern : ExactPattern) (at : ExactPoint) (k : ℕ) (e : ExactPoint) : Type 0 where
  pub ray : OnRay at k e
  pub met : OnSideOrCrease pattern e
  pub first : (r : ExactPoint) → OnRay at k r → OnRay r k e → ¬ OnSideOrCrease pattern r

-- s is the segment from the start of the ray to the first point that it meets
abbrev pub IsExtension : ExactPattern → ExactPoint → ℕ → ExactSegment → Type 0
IsExtension pattern at k s = (e : ExactPoint) × IsFirstMet pattern at k e × IsPointCanonical e × Joins s at e

-- the segment that extending from a point in a direction draws
abbrev pub Extension : ExactPattern → ExactPoint → ℕ → Result ExactSegment EditBad → Type 0
Extension pattern at k =
    Unless (¬ InSheet pattern.sheet at) bad.Outside
    (Unless (MissesInside pattern.sheet at k) bad.AtBorder
    (Unless (IsCovered pattern.creases at k) bad.Covered
    (Unless (MeetsOutOfRange pattern at k) (bad.Range point.End)
    (Gives (IsExtension pattern at k)))))

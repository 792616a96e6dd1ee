-- The images of creases in a line.
use Rattle.std.specs.Prelude.{◌≡◌, ℕ, ◌⊎◌, List, [], Contains, Result}
use Rattle.exact.specs.Plane.{ExactPoint, ExactSegment, OnSeg, IsSegment, IsPointRepresentable}
use Rattle.sheet.specs.Sheet.{ExactSheet, InSheet, OnBorder}
use Rattle.sheet.specs.Pattern.{ExactCrease, ExactPattern}
use Rattle.qroot2.specs.declared.sign.Sign.TheVariants.{Minus}
use Rattle.plane.specs.Sides.{IsSide, IsOnLine}
use Rattle.plane.specs.Segments.{HasCanonicalEnds}
use Rattle.plane.specs.Images.{IsImage}
use Rattle.edits.specs.Rules.{Gives, Unless, Then, ForEach}
use Rattle.edits.specs.CreaseSet.{AreCreases}
use Rattle.edits.specs.declared.refusal.EditBad.{EditBad}
use Rattle.edits.specs.declared.refusal.EditBad.TheVariants as bad
use Rattle.edits.specs.declared.refusal.PointKind.TheVariants as point

-- s has no point on the right of the line through a point in direction k, and does not lie on the line
pub record IsConcerned (at : ExactPoint) (k : ℕ) (s : ExactSegment) : Type 0 where
  pub left : (r : ExactPoint) → OnSeg r s → ¬ IsSide at k r Minus
  pub off : ¬ ((r : ExactPoint) → OnSeg r s → IsOnLine at k r)

-- the creases that are mirrored, ascending
abbrev pub AreConcerned : List ExactCrease → ExactPoint → ℕ → List ExactCrease → Type 0
AreConcerned creases at k concerned = AreCreases (λ f. Contains creases f × IsConcerned at k f.seg) concerned

-- v is the image of an end of s
abbrev pub IsEndImage : ExactPoint → ℕ → ExactSegment → ExactPoint → Type 0
IsEndImage at k s v = IsImage at k s.p v ⊎ IsImage at k s.q v

-- u is the image of s: the segment between the images of its ends
abbrev pub IsSegmentImage : ExactPoint → ℕ → ExactSegment → ExactSegment → Type 0
IsSegmentImage at k s u =
    IsSegment u × ((IsImage at k s.p u.p × IsImage at k s.q u.q)
    ⊎ (IsImage at k s.p u.q × IsImage at k s.q u.p))

-- g is the image of f, in its colour
pub record IsCreaseImage (at : ExactPoint) (k : ℕ) (f g : ExactCrease) : Type 0 where
  pub image : IsSegmentImage at k f.seg g.seg
  pub canonical : HasCanonicalEnds g.seg
  pub colour : g.colour ≡ f.colour

-- the image of one crease, in the sheet and not on a side of it
abbrev pub ImageOf : ExactSheet → ExactPoint → ℕ → ExactCrease → Result ExactCrease EditBad → Type 0
ImageOf sheet at k f =
    Unless ((v : ExactPoint) × IsEndImage at k f.seg v × (¬ IsPointRepresentable v)) (bad.Range point.Image)
    (Unless ((v : ExactPoint) × IsEndImage at k f.seg v × (¬ InSheet sheet v)) bad.Outside
    (Unless ((u : ExactSegment) × IsSegmentImage at k f.seg u × OnBorder sheet u) bad.OnBorder
    (Gives (IsCreaseImage at k f))))

-- the images of the creases concerned, in their order
abbrev pub ImagesOf : ExactSheet → ExactPoint → ℕ → List ExactCrease → Result (List ExactCrease) EditBad
    → Type 0
ImagesOf sheet at k concerned = Unless (concerned ≡ []) bad.NoCrease (ForEach (ImageOf sheet at k) concerned)

-- what is drawn: the images of all creases that are mirrored
abbrev pub MirrorImages : ExactPattern → ExactPoint → ℕ → Result (List ExactCrease) EditBad → Type 0
MirrorImages pattern at k =
    Unless (¬ InSheet pattern.sheet at) bad.Outside
    (Then (Gives (AreConcerned pattern.creases at k)) (ImagesOf pattern.sheet at k))

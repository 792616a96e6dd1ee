-- A crease pattern on the sheet.
use Rattle.std.specs.Prelude.{ℕ, ◌≤◌, List, length, All, AllPairs}
use Rattle.exact.specs.Plane.{ExactSegment, IsSegment, Overlap, IsPointCanonical, SegmentBefore}
use Rattle.sheet.specs.Sheet.{ExactSheet, IsSheet, InSheet, OnBorder}
use Rattle.sheet.specs.declared.colour.Colour.{Colour}

-- a segment with its colour
pub record ExactCrease : Type 0 where
  pub seg : ExactSegment
  pub colour : Colour

-- A sheet with creases on it. A finite map from segments to colours is listed by its segments, ascending.
pub record ExactPattern : Type 0 where
  pub sheet : ExactSheet
  pub creases : List ExactCrease

-- what a key of a pattern on the sheet has to be
pub record IsKey (sheet : ExactSheet) (s : ExactSegment) : Type 0 where
  pub segment : IsSegment s
  pub from : IsPointCanonical s.p
  pub to : IsPointCanonical s.q
  pub from_in : InSheet sheet s.p
  pub to_in : InSheet sheet s.q
  pub inner : ¬ OnBorder sheet s

-- as many creases may stand in a pattern
abbrev pub crease_limit : ℕ
crease_limit = 20000

-- The segments are keys, ascend, and do not overlap.
pub record IsPattern (pattern : ExactPattern) : Type 0 where
  pub sheet : IsSheet pattern.sheet
  pub keys : All (λ f. IsKey pattern.sheet f.seg) pattern.creases
  pub ordered : AllPairs (λ f g. SegmentBefore f.seg g.seg) pattern.creases
  pub apart : AllPairs (λ f g. ¬ Overlap f.seg g.seg) pattern.creases
  pub few : length pattern.creases ≤ crease_limit

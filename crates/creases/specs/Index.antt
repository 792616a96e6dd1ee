-- A map from places to creases, and the part of it that overlaps a segment.
use Rattle.std.specs.Prelude.{◌≡◌, ◌≢◌, ◌↔◌, List, Some, Contains}
use Rattle.std.specs.declared.ops.Bound.TheVariants.{Included, Excluded}
use Rattle.std.specs.BTreeMap.{is_at}
use Rattle.std.specs.BTreeMap.Range.{IsInRange}
use Rattle.std.specs.List.Sorted.{IsStrictlySortedBy}
use Rattle.std.specs.Map.{keys_of, values_of, lookup}
use Rattle.exact.specs.Plane.{ExactSegment, Overlap}
use Rattle.sheet.specs.Pattern.{ExactCrease}
use Rattle.plane.specs.Segments.{IsHeld}
use Rattle.creases.specs.declared.place.Place.{Place}
use Rattle.creases.specs.Places.{IsPlaceOf, place_cmp}

-- each crease is found at its place, and no two overlap
pub record IsIndex (entries : List (Place × ExactCrease)) : Type 0 where
  pub ordered : IsStrictlySortedBy place_cmp (keys_of entries)
  pub placed : (k : Place) (f : ExactCrease)
      → lookup (is_at (place_cmp k)) entries ≡ Some f → IsPlaceOf f.seg k
  pub held : (f : ExactCrease) → Contains (values_of entries) f → IsHeld f.seg
  pub apart : (f g : ExactCrease) → Contains (values_of entries) f → Contains (values_of entries) g → f ≢ g
      → ¬ Overlap f.seg g.seg

-- the creases that overlap the segment are those at places from one on, and before another
abbrev pub OverlapBetween : List (Place × ExactCrease) → ExactSegment → Place → Place → Type 0
OverlapBetween entries s from end = (k : Place) (f : ExactCrease)
    → lookup (is_at (place_cmp k)) entries ≡ Some f
    → IsInRange place_cmp (Included from) (Excluded end) k ↔ Overlap f.seg s

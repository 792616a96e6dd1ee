-- A map from segments to colours, beside the same creases by their lines.
use Rattle.std.specs.Prelude.{◌↔◌, List, map, Contains}
use Rattle.std.specs.List.Sorted.{IsStrictlySortedBy}
use Rattle.std.specs.Map.{keys_of}
use Rattle.exact.specs.Plane.{ExactSegment}
use Rattle.sheet.specs.Pattern.{ExactCrease}
use Rattle.sheet.specs.declared.colour.Colour.{Colour}
use Rattle.plane.specs.Order.{segment_cmp}
use Rattle.creases.specs.Standing.{AreStanding}

abbrev pub crease_of : ExactSegment × Colour → ExactCrease
crease_of e = record { seg = e.0; colour = e.1 }

abbrev pub creases_of : List (ExactSegment × Colour) → List ExactCrease
creases_of entries = map crease_of entries

-- the creases of the map stand, and they are those that are found by their lines
pub record AreFound (entries : List (ExactSegment × Colour)) (by_line : List ExactCrease) : Type 0 where
  pub ordered : IsStrictlySortedBy segment_cmp (keys_of entries)
  pub standing : AreStanding (creases_of entries)
  pub same : (f : ExactCrease) → Contains by_line f ↔ Contains (creases_of entries) f

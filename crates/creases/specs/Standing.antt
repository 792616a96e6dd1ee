-- Creases that can stand side by side: none of them overlaps another.
use Rattle.std.specs.Prelude.{List, All, AllPairs}
use Rattle.exact.specs.Plane.{Overlap}
use Rattle.sheet.specs.Pattern.{ExactCrease}
use Rattle.plane.specs.Segments.{IsHeld}
use Rattle.creases.specs.Creases.{Ascends}

pub record AreStanding (creases : List ExactCrease) : Type 0 where
  pub held : All (λ f. IsHeld f.seg) creases
  pub ordered : Ascends creases
  pub apart : AllPairs (λ f g. ¬ Overlap f.seg g.seg) creases

-- Patterns of creases that are listed in any order.
use Rattle.std.specs.Prelude.{◌≡◌, ◌≢◌, ◌↔◌, List, AllPairs, Contains}
use Rattle.sheet.specs.Sheet.{ExactSheet}
use Rattle.sheet.specs.Pattern.{ExactCrease, ExactPattern, IsPattern}

-- The pattern is on this sheet, and has just these creases, of which no segment is listed twice.
pub record HasJust (on : ExactSheet) (creases : List ExactCrease) (made : ExactPattern) : Type 0 where
  pub pattern : IsPattern made
  pub sheet : made.sheet ≡ on
  pub members : (f : ExactCrease) → Contains made.creases f ↔ Contains creases f
  pub once : AllPairs (λ f g. f.seg ≢ g.seg) creases

-- Patterns that are cut, and the steps from one to another.
use Rattle.std.specs.Prelude.{List}
use Rattle.exact.specs.Plane.{ExactPoint}
use Rattle.sheet.specs.Pattern.{ExactPattern, IsPattern}
use Rattle.pattern.specs.Deltas.{Leads}
use Rattle.pattern.specs.declared.delta.Delta.{Delta}
use Rattle.subdivide.specs.Subdivision.{EdgePlaces, ExactSubdivision, Answer, CutOf}
use Rattle.ports.specs.Stops.{Refuses}
use Rattle.subdivide.specs.CutAnswers.{IsCutAnswer}
use Rattle.subdivide.specs.declared.edge.CutBad.{CutBad}
use Rattle.ports.specs.declared.stop.Stop.{Stop}

-- cutting the pattern is not refused
abbrev pub IsCut : ExactPattern → Type 0
IsCut pattern = (vs : List ExactPoint) × (es : List EdgePlaces) × CutOf pattern (Answer.Cut vs es)

-- this is the pattern, cut
pub record IsCutAs (pattern : ExactPattern) (s : ExactSubdivision) : Type 0 where
  pub is : IsPattern pattern
  pub cut : CutOf pattern (Answer.Cut s.vertices s.edges)

-- a step from one pattern to another
pub record ExactPlan : Type 0 where
  pub old : ExactPattern
  pub new : ExactPattern

-- a step by this delta is refused, since the pattern that it leads to is
abbrev pub RefusesStep : ExactPattern → Delta → Stop CutBad → Type 0
RefusesStep old delta e = (new : ExactPattern) → Leads old delta new → Refuses (IsCutAnswer new) e

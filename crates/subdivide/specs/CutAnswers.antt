-- What the call that cuts a pattern answers.
use Rattle.std.specs.Prelude.{Result, Ok, Err}
use Rattle.sheet.specs.Pattern.{ExactPattern}
use Rattle.subdivide.specs.Subdivision.{Answer, CutOf, ExactSubdivision}
use Rattle.subdivide.specs.declared.edge.CutBad.{CutBad}
use Rattle.subdivide.specs.declared.edge.CutBad.TheVariants as bad

-- the subdivision, or the refusal, is what cutting the pattern answers
abbrev pub IsCutAnswer : ExactPattern → Result ExactSubdivision CutBad → Type 0
IsCutAnswer pattern (Ok s) = CutOf pattern (Answer.Cut s.vertices s.edges)
IsCutAnswer pattern (Err (bad.CrossRange first second)) = CutOf pattern (Answer.CrossRange first second)
IsCutAnswer pattern (Err bad.TooManyVertices) = CutOf pattern Answer.TooManyVertices

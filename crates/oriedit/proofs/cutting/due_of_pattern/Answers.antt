use Rattle.std.proofs.Common.{refl, subst, sym, ap}
use Rattle.subdivide.specs.Subdivision.{Answer}
use Rattle.ports.specs.Stops.{Refuses}
use Rattle.subdivide.specs.CutAnswers.{IsCutAnswer}
use Rattle.oriedit.specs.CutText.{PatternText}
use Rattle.oriedit.specs.Dues.{text_of}
use Rattle.oriedit.proofs.Ending.{refused}
use Rattle.oriedit.proofs.cutting.due_of_pattern.Goals as goal

pub returns-in-Ok : goal.returns-in-Ok
returns-in-Ok c =
    (Answer.Cut c.in-Ok.subdivision.vertices c.in-Ok.subdivision.edges, c.in-Ok.ensures, refl, refl)

pub returns-in-Err-Why : goal.returns-in-Err-Why
returns-in-Err-Why c =
    subst (λ s. PatternText c.args.pattern.now s (text_of c.refused.result.text)) (sym c.refused.ensures.status)
    (refused c.args.pattern.now c.in-Err-Why.bad (subst (Refuses (IsCutAnswer c.args.pattern.now)) c.in-Err-Why.field-0-is c.in-Err-Why.ensures)
    (text_of c.refused.result.text) (ap text_of c.refused.ensures.text))

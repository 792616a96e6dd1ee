use Rattle.std.proofs.Common.{List, ap, sym, subst}
use Rattle.std.proofs.lemmas.Result.{err_from_is_err_and}
use Rattle.sheet.specs.Pattern.{ExactCrease, IsPattern}
use Rattle.edits.specs.Drafts.{ExactDraft, pattern_of}
use Rattle.ports.specs.Stops.{Refuses}
use Rattle.edits.specs.CreaseSet.{crease}
use Rattle.edits.specs.Drawn.{DrawnOne}
use Rattle.edits.proofs.planning.drawn.Goals as goal

pub returns-in_err-draw_one-clause-is : goal.returns-in_err-draw_one-clause-is
returns-in_err-draw_one-clause-is c = let p = err_from_is_err_and c.from_residual.result c.from_residual.ensures.1 in
    rw p.1 (subst (λ (xs : List ExactCrease). Refuses (DrawnOne (crease c.args.seg c.args.colour) xs) p.0) (ap (λ (d : ExactDraft). d.creases) c.of-draft.ensures.same) (rw p.2 c.in_err-draw_one.ensures.err))

pub draw_one-requires-clause-pattern : goal.draw_one-requires-clause-pattern
draw_one-requires-clause-pattern c = subst (λ (d : ExactDraft). IsPattern (pattern_of d)) (sym c.of-draft.ensures.same) c.of-draft.ensures.pattern

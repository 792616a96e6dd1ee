use Rattle.std.proofs.Common.{List, ap, sym, subst}
use Rattle.std.specs.Prelude.{Ok}
use Rattle.std.proofs.lemmas.Result.{err_from_is_err_and}
use Rattle.sheet.specs.Pattern.{ExactCrease, IsPattern}
use Rattle.edits.specs.Drafts.{ExactDraft, pattern_of}
use Rattle.ports.specs.Stops.{Refuses}
use Rattle.edits.specs.Recolour.{Recoloured}
use Rattle.edits.proofs.planning.recoloured.Goals as goal

pub returns-in_err-recolour_along-clause-is : goal.returns-in_err-recolour_along-clause-is
returns-in_err-recolour_along-clause-is c = let p = err_from_is_err_and c.from_residual.result c.from_residual.ensures.1 in
    rw p.1 (subst (λ (xs : List ExactCrease). Refuses (Recoloured xs c.args.seg.now c.args.colour) p.0) (ap (λ (d : ExactDraft). d.creases) c.of-draft.ensures.same) (rw p.2 c.in_err-recolour_along.ensures.err))

pub returns-clause-is : goal.returns-clause-is
returns-clause-is c = subst (λ (xs : List ExactCrease). Recoloured xs c.args.seg.now c.args.colour (Ok c.recolour_along.new.draft.creases)) (ap (λ (d : ExactDraft). d.creases) c.of-draft.ensures.same) c.in_ok-recolour_along.ensures.ok

pub recolour_along-requires-clause-pattern : goal.recolour_along-requires-clause-pattern
recolour_along-requires-clause-pattern c = subst (λ (d : ExactDraft). IsPattern (pattern_of d)) (sym c.of-draft.ensures.same) c.of-draft.ensures.pattern

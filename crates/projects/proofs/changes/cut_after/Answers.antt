use Rattle.std.proofs.Common.{subst}
use Rattle.std.proofs.lemmas.Result.{err_from_is_err_and}
use Rattle.sheet.specs.Pattern.{ExactPattern}
use Rattle.pattern.specs.Deltas.{Leads}
use Rattle.projects.specs.Changes.{IsUncutAfter}
use Rattle.projects.proofs.Changing.{handed_on, uncut_after}
use Rattle.projects.proofs.changes.cut_after.Goals as goal

pub returns-in_err-start-clause-err : goal.returns-in_err-start-clause-err
returns-in_err-start-clause-err c =
    let h = err_from_is_err_and c.from_residual-in_err-start.result c.from_residual-in_err-start.ensures.1 in
    let d = c.args.delta.now in
    let leads = subst (λ (x : ExactPattern). Leads x d c.in_ok-next.next) c.pattern.ensures.value c.in_ok-next.ensures in
    handed_on c.from_residual-in_err-start.result (IsUncutAfter c.args.live.now d) h.1 h.2
    (uncut_after c.args.live.now c.in_ok-next.next d leads c.in_err-start.field-0.0 c.in_err-start.ensures.err)

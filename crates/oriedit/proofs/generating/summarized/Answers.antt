use Rattle.std.proofs.Common.{sym, subst, ap, ◌∙◌}
use Rattle.std.specs.Prelude.{Err}
use Rattle.std.proofs.lemmas.Result.{err_from_is_err_and}
use Rattle.oriedit.specs.Counting.{Summarizes}
use Rattle.oriedit.proofs.Stepping.{none_replied}
use Rattle.oriedit.proofs.Rounds.{unopened, unsummarized, summarized_all}
use Rattle.oriedit.proofs.generating.summarized.Goals as goal

pub returns-in_err-desk-clause-summary : goal.returns-in_err-desk-clause-summary
returns-in_err-desk-clause-summary g c =
    let p = err_from_is_err_and c.from_residual.result c.from_residual.ensures.1 in
    subst (Summarizes _ _ _ _ _ _) (sym (p.1 ∙ ap Err p.2)) (unopened _ _ _ _ _ (none_replied _ _))

pub returns-in_err-summary-clause-summary : goal.returns-in_err-summary-clause-summary
returns-in_err-summary-clause-summary g c =
    let p = err_from_is_err_and c.from_residual-in_err-summary.result c.from_residual-in_err-summary.ensures.1 in
    subst (Summarizes _ _ _ _ _ _) (sym p.1) (unsummarized _ _ _ _ _ _ _ c.in_ok-tally.ensures.all)

pub returns-clause-summary : goal.returns-clause-summary
returns-clause-summary g c = summarized_all _ _ c.in_ok-tally.tally c.in_ok-tally.last _ _ _ _ c.in_ok-tally.ensures.all c.in_ok-summary.ensures

use Rattle.std.proofs.Common.{sym, subst, ap, ◌∙◌}
use Rattle.std.specs.Prelude.{Err}
use Rattle.std.proofs.lemmas.Result.{err_from_is_err_and}
use Rattle.oriedit.specs.Counting.{Closes}
use Rattle.oriedit.proofs.Rounds.{closed_one, closed_two, closed_three}
use Rattle.oriedit.proofs.generating.closed.Goals as goal

pub returns-in_err-sizes-clause-closes : goal.returns-in_err-sizes-clause-closes
returns-in_err-sizes-clause-closes g c =
    let p = err_from_is_err_and c.from_residual-in_err-sizes.result c.from_residual-in_err-sizes.ensures.1 in
    let h = c.in_ok-creases.ensures.creases in
    subst (Closes _ _ _) (sym (p.1 ∙ ap Err p.2)) (closed_one h.0 _ _ _ _ _ c.in_err-sizes.ensures.keeper_clean h.1 c.in_err-sizes.ensures.sizes)

pub returns-in_err-faults-clause-closes : goal.returns-in_err-faults-clause-closes
returns-in_err-faults-clause-closes g c =
    let p = err_from_is_err_and c.from_residual-in_err-faults.result c.from_residual-in_err-faults.ensures.1 in
    let h = c.in_ok-creases.ensures.creases in
    let k = c.in_ok-sizes.ensures.sizes in
    subst (Closes _ _ _) (sym (p.1 ∙ ap Err p.2))
    (closed_two h.0 k.0 _ _ _ _ _ _ _ c.in_ok-sizes.ensures.keeper_clean c.in_err-faults.ensures.keeper_clean h.1 k.1 c.in_err-faults.ensures.faults)

pub returns-clause-closes : goal.returns-clause-closes
returns-clause-closes g c =
    let h = c.in_ok-creases.ensures.creases in
    let k = c.in_ok-sizes.ensures.sizes in
    let q = c.in_ok-faults.ensures.faults in
    closed_three h.0 k.0 q.0 _ _ _ _ _ _ _ _ c.in_ok-sizes.ensures.keeper_clean c.in_ok-faults.ensures.keeper_clean h.1 k.1 q.1 h.2 k.2 q.2

use Rattle.std.proofs.Common.{refl}
use Rattle.std.proofs.lemmas.Result.{err_from_is_err_and}
use Rattle.commands.proofs.Steps.{ended, more, then, wrong}
use Rattle.commands.proofs.asked.cp.Goals as goal

pub returns-in_err-name : goal.returns-in_err-name
returns-in_err-name c = let p = err_from_is_err_and c.from_residual.result c.from_residual.ensures.1 in
    rw (p.1, p.2) (wrong c.in_err-name.ensures.wrong)

pub returns-in_err-end : goal.returns-in_err-end
returns-in_err-end c = let p = err_from_is_err_and c.from_residual-in_err-end.result c.from_residual-in_err-end.ensures.1 in
    rw (p.1, p.2) (then c.in_ok-name.ensures.right (more c.in_err-end.ensures.more))

pub returns : goal.returns
returns c = then c.in_ok-name.ensures.right (ended (c.in_ok-end.ensures.none refl))

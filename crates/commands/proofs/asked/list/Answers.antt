use Rattle.std.proofs.Common.{refl}
use Rattle.std.proofs.lemmas.Result.{err_from_is_err_and}
use Rattle.commands.proofs.Steps.{ended, more}
use Rattle.commands.proofs.asked.list.Goals as goal

pub returns-in_err-end : goal.returns-in_err-end
returns-in_err-end c = let p = err_from_is_err_and c.from_residual.result c.from_residual.ensures.1 in
    rw (p.1, p.2) (more c.in_err-end.ensures.more)

pub returns : goal.returns
returns c = ended (c.in_ok-end.ensures.none refl)

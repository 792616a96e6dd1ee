use Rattle.std.proofs.Common.{refl}
use Rattle.std.proofs.lemmas.Result.{err_from_is_err_and}
use Rattle.commands.proofs.Steps.{ended, more, then, wrong}
use Rattle.commands.proofs.asked.recolour.Goals as goal

pub returns-in_err-who : goal.returns-in_err-who
returns-in_err-who c = let p = err_from_is_err_and c.from_residual.result c.from_residual.ensures.1 in
    rw (p.1, p.2) (wrong c.in_err-who.ensures.wrong)

pub returns-in_err-colour : goal.returns-in_err-colour
returns-in_err-colour c = let p = err_from_is_err_and c.from_residual-in_err-colour.result c.from_residual-in_err-colour.ensures.1 in
    rw (p.1, p.2) (then c.in_ok-who.ensures.right (wrong c.in_err-colour.ensures.wrong))

pub returns-in_err-from : goal.returns-in_err-from
returns-in_err-from c = let p = err_from_is_err_and c.from_residual-in_err-from.result c.from_residual-in_err-from.ensures.1 in
    rw (p.1, p.2) (then c.in_ok-who.ensures.right (then c.in_ok-colour.ensures.right (wrong c.in_err-from.ensures.wrong)))

pub returns-in_err-to : goal.returns-in_err-to
returns-in_err-to c = let p = err_from_is_err_and c.from_residual-in_err-to.result c.from_residual-in_err-to.ensures.1 in
    rw (p.1, p.2) (then c.in_ok-who.ensures.right (then c.in_ok-colour.ensures.right (then c.in_ok-from.ensures.right (wrong c.in_err-to.ensures.wrong))))

pub returns-in_err-end : goal.returns-in_err-end
returns-in_err-end c = let p = err_from_is_err_and c.from_residual-in_err-end.result c.from_residual-in_err-end.ensures.1 in
    rw (p.1, p.2) (then c.in_ok-who.ensures.right (then c.in_ok-colour.ensures.right (then c.in_ok-from.ensures.right (then c.in_ok-to.ensures.right (more c.in_err-end.ensures.more)))))

pub returns : goal.returns
returns c = rw c.edited.ensures (then c.in_ok-who.ensures.right (then c.in_ok-colour.ensures.right (then c.in_ok-from.ensures.right (then c.in_ok-to.ensures.right (ended (c.in_ok-end.ensures.none refl))))))

use Rattle.std.proofs.Common.{refl}
use Rattle.std.proofs.lemmas.Result.{err_from_is_err_and}
use Rattle.commands.proofs.Steps.{ended, more, then, wrong}
use Rattle.commands.proofs.asked.import.Goals as goal

pub returns-in_err-who : goal.returns-in_err-who
returns-in_err-who c = let p = err_from_is_err_and c.from_residual.result c.from_residual.ensures.1 in
    rw (p.1, p.2) (wrong c.in_err-who.ensures.wrong)

pub returns-in_err-d : goal.returns-in_err-d
returns-in_err-d c = let p = err_from_is_err_and c.from_residual-in_err-d.result c.from_residual-in_err-d.ensures.1 in
    rw (p.1, p.2) (then c.in_ok-who.ensures.right (wrong c.in_err-d.ensures.wrong))

pub returns-in_err-k : goal.returns-in_err-k
returns-in_err-k c = let p = err_from_is_err_and c.from_residual-in_err-k.result c.from_residual-in_err-k.ensures.1 in
    rw (p.1, p.2) (then c.in_ok-who.ensures.right (then c.in_ok-d.ensures.right (wrong c.in_err-k.ensures.wrong)))

pub returns-in_err-tol : goal.returns-in_err-tol
returns-in_err-tol c = let p = err_from_is_err_and c.from_residual-in_err-tol.result c.from_residual-in_err-tol.ensures.1 in
    rw (p.1, p.2) (then c.in_ok-who.ensures.right (then c.in_ok-d.ensures.right (then c.in_ok-k.ensures.right (wrong c.in_err-tol.ensures.wrong))))

pub returns-in_err-count : goal.returns-in_err-count
returns-in_err-count c = let p = err_from_is_err_and c.from_residual-in_err-count.result c.from_residual-in_err-count.ensures.1 in
    rw (p.1, p.2) (then c.in_ok-who.ensures.right (then c.in_ok-d.ensures.right (then c.in_ok-k.ensures.right (then c.in_ok-tol.ensures.right (wrong c.in_err-count.ensures.wrong)))))

pub returns-in_err-end : goal.returns-in_err-end
returns-in_err-end c = let p = err_from_is_err_and c.from_residual-in_err-end.result c.from_residual-in_err-end.ensures.1 in
    rw (p.1, p.2) (then c.in_ok-who.ensures.right (then c.in_ok-d.ensures.right (then c.in_ok-k.ensures.right (then c.in_ok-tol.ensures.right (then c.in_ok-count.ensures.right (more c.in_err-end.ensures.more))))))

pub returns : goal.returns
returns c = rw (c.in-Some.ensures.some.0, c.in_ok-count.ensures.column) (then c.in_ok-who.ensures.right (then c.in_ok-d.ensures.right (then c.in_ok-k.ensures.right (then c.in_ok-tol.ensures.right (then c.in_ok-count.ensures.right (ended (c.in_ok-end.ensures.none refl)))))))

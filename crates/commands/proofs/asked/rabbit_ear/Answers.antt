use Rattle.std.proofs.Common.{refl}
use Rattle.std.proofs.lemmas.Result.{err_from_is_err_and}
use Rattle.commands.proofs.Steps.{ended, more, then, wrong}
use Rattle.commands.proofs.asked.rabbit_ear.Goals as goal

pub returns-in_err-who : goal.returns-in_err-who
returns-in_err-who c = let p = err_from_is_err_and c.from_residual.result c.from_residual.ensures.1 in
    rw (p.1, p.2) (wrong c.in_err-who.ensures.wrong)

pub returns-in_err-mark : goal.returns-in_err-mark
returns-in_err-mark c = let p = err_from_is_err_and c.from_residual-in_err-mark.result c.from_residual-in_err-mark.ensures.1 in
    rw (p.1, p.2) (then c.in_ok-who.ensures.right (wrong c.in_err-mark.ensures.wrong))

pub returns-in_err-p : goal.returns-in_err-p
returns-in_err-p c = let p = err_from_is_err_and c.from_residual-in_err-p.result c.from_residual-in_err-p.ensures.1 in
    rw (p.1, p.2) (then c.in_ok-who.ensures.right (then c.in_ok-mark.ensures.right (wrong c.in_err-p.ensures.wrong)))

pub returns-in_err-q : goal.returns-in_err-q
returns-in_err-q c = let p = err_from_is_err_and c.from_residual-in_err-q.result c.from_residual-in_err-q.ensures.1 in
    rw (p.1, p.2) (then c.in_ok-who.ensures.right (then c.in_ok-mark.ensures.right (then c.in_ok-p.ensures.right (wrong c.in_err-q.ensures.wrong))))

pub returns-in_err-r : goal.returns-in_err-r
returns-in_err-r c = let p = err_from_is_err_and c.from_residual-in_err-r.result c.from_residual-in_err-r.ensures.1 in
    rw (p.1, p.2) (then c.in_ok-who.ensures.right (then c.in_ok-mark.ensures.right (then c.in_ok-p.ensures.right (then c.in_ok-q.ensures.right (wrong c.in_err-r.ensures.wrong)))))

pub returns-in_err-end : goal.returns-in_err-end
returns-in_err-end c = let p = err_from_is_err_and c.from_residual-in_err-end.result c.from_residual-in_err-end.ensures.1 in
    rw (p.1, p.2) (then c.in_ok-who.ensures.right (then c.in_ok-mark.ensures.right (then c.in_ok-p.ensures.right (then c.in_ok-q.ensures.right (then c.in_ok-r.ensures.right (more c.in_err-end.ensures.more))))))

pub returns : goal.returns
returns c = rw c.edited.ensures (then c.in_ok-who.ensures.right (then c.in_ok-mark.ensures.right (then c.in_ok-p.ensures.right (then c.in_ok-q.ensures.right (then c.in_ok-r.ensures.right (ended (c.in_ok-end.ensures.none refl)))))))

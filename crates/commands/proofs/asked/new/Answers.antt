use Rattle.std.proofs.Common.{◌≢◌, [], refl}
use Rattle.std.proofs.lemmas.Result.{err_from_is_err_and}
use Rattle.commands.proofs.Steps.{then, wrong, ended, more, no_sheet, sheet}
use Rattle.commands.proofs.asked.new.Goals as goal

pub returns-in_err-name : goal.returns-in_err-name
returns-in_err-name c = let p = err_from_is_err_and c.from_residual.result c.from_residual.ensures.1 in
    rw (p.1, p.2) (wrong c.in_err-name.ensures.wrong)

pub returns-then-is_empty : goal.returns-then-is_empty
returns-then-is_empty c = rw c.square-sheet.ensures (then c.in_ok-name.ensures.right (no_sheet c.in_ok-name.name c.name.new.self (c.is_empty.ensures.0 c.if-is_empty.true)))

pub returns-in_err-w : goal.returns-in_err-w
returns-in_err-w c =
    let some : c.name.new.self.words ≢ [] = λ e. (let t = c.is_empty.ensures.1 e in cc) in
    let p = err_from_is_err_and c.from_residual-in_err-w.result c.from_residual-in_err-w.ensures.1 in
    rw (p.1, p.2) (then c.in_ok-name.ensures.right (sheet some (wrong c.in_err-w.ensures.wrong)))

pub returns-in_err-h : goal.returns-in_err-h
returns-in_err-h c =
    let some : c.name.new.self.words ≢ [] = λ e. (let t = c.is_empty.ensures.1 e in cc) in
    let p = err_from_is_err_and c.from_residual-in_err-h.result c.from_residual-in_err-h.ensures.1 in
    rw (p.1, p.2) (then c.in_ok-name.ensures.right (sheet some (then c.in_ok-w.ensures.right (wrong c.in_err-h.ensures.wrong))))

pub returns-in_err-end : goal.returns-in_err-end
returns-in_err-end c =
    let some : c.name.new.self.words ≢ [] = λ e. (let t = c.is_empty.ensures.1 e in cc) in
    let p = err_from_is_err_and c.from_residual-in_err-end.result c.from_residual-in_err-end.ensures.1 in
    rw (p.1, p.2) (then c.in_ok-name.ensures.right (sheet some (then c.in_ok-w.ensures.right (then c.in_ok-h.ensures.right (more c.in_err-end.ensures.more)))))

pub returns : goal.returns
returns c =
    let some : c.name.new.self.words ≢ [] = λ e. (let t = c.is_empty.ensures.1 e in cc) in
    rw c.in-Some.ensures.some (then c.in_ok-name.ensures.right (sheet some (then c.in_ok-w.ensures.right (then c.in_ok-h.ensures.right (ended (c.in_ok-end.ensures.none refl))))))

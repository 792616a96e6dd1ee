use Rattle.oriedit.proofs.Pieces.{four, on_ok}
use Rattle.oriedit.proofs.summary.put_last.Goals as goal

pub returns : goal.returns
returns c =
    rw (c.in-Some-Some-Some.is-0, c.in-Some-Some-Some.is-1, c.in-Some-Some-Some.is-2)
    (on_ok _ _ c.put_line.result (λ e. four c.args.text.now.items _ _ _ _ _ _ _ _ c.in_ok-put.ensures c.in_ok-put-2.ensures c.in_ok-put-3.ensures e) c.put_line.ensures)

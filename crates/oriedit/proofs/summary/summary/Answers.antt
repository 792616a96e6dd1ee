use Rattle.oriedit.proofs.Pieces.{seven}
use Rattle.oriedit.proofs.summary.summary.Goals as goal

pub returns : goal.returns
returns c = seven _ _ _ _ _ _ _ _ _ _ _ _ _ _ _ c.new-text.ensures.items c.in_ok-put.ensures c.in_ok-put_line.ensures c.in_ok-put_line-2.ensures c.in_ok-put_line-3.ensures c.in_ok-put_line-4.ensures c.in_ok-put_wide_line.ensures c.in_ok-put_last.ensures

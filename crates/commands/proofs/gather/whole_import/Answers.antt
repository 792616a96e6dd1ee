use Rattle.std.proofs.Common.{arith}
use Rattle.commands.proofs.Gathering.{too_long, lacking, whole}
use Rattle.commands.proofs.gather.whole_import.Goals as goal

pub returns-then-not-lines : goal.returns-then-not-lines
returns-then-not-lines c = too_long _ _ _ _ _ _ c.in_ok-lines.ensures.gathers c.in_ok-lines.ensures.most
    c.in_ok-lines.ensures.lacking c.if-not-lines.true

pub returns-then-lines-line : goal.returns-then-lines-line
returns-then-lines-line c = lacking _ _ _ _ _ _ c.in_ok-lines.ensures.gathers c.in_ok-lines.ensures.most
    c.in_ok-lines.ensures.lacking c.if-not-lines.false c.if-lines-line.true

pub returns : goal.returns
returns c = whole _ _ _ _ _ _ _ c.in_ok-lines.ensures.gathers c.in_ok-lines.ensures.most
    c.in_ok-lines.ensures.lacking c.if-not-lines.false (omega arith)
    (rw (c.changed.ensures, c.new-text.ensures) at c.alone.ensures)

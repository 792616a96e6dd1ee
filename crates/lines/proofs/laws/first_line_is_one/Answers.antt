use Rattle.lines.proofs.callers.Lines.{one_line}
use Rattle.lines.proofs.laws.first_line_is_one.Goals as goal

pub returns-clause-line : goal.returns-clause-line
returns-clause-line c = λ text line other after rest f g. (one_line text line other after rest f g).0

pub returns-clause-after : goal.returns-clause-after
returns-clause-after c = λ text line other after rest f g. (one_line text line other after rest f g).1

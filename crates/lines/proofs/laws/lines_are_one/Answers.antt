use Rattle.lines.proofs.callers.Lines.{one_lines}
use Rattle.lines.proofs.laws.lines_are_one.Goals as goal

pub returns-clause-lines : goal.returns-clause-lines
returns-clause-lines c = λ text rest other lines others l m. (one_lines text rest other lines others l m).0

pub returns-clause-rest : goal.returns-clause-rest
returns-clause-rest c = λ text rest other lines others l m. (one_lines text rest other lines others l m).1

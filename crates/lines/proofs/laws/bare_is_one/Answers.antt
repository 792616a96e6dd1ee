use Rattle.lines.proofs.callers.Lines.{one_bare}
use Rattle.lines.proofs.laws.bare_is_one.Goals as goal

pub returns : goal.returns
returns c = one_bare

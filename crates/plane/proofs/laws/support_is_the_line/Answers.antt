use Rattle.plane.proofs.callers.Supports.{support_is_line}
use Rattle.plane.proofs.laws.support_is_the_line.Goals as goal

pub returns : goal.returns
returns c = support_is_line

use Rattle.forms.proofs.callers.Marked.{mark_along}
use Rattle.forms.proofs.laws.marks_along_are_one.Goals as goal

pub returns : goal.returns
returns c = mark_along

use Rattle.forms.proofs.callers.Marked.{further_left}
use Rattle.forms.proofs.laws.marks_tell_what_ends_left.Goals as goal

pub returns : goal.returns
returns c = further_left

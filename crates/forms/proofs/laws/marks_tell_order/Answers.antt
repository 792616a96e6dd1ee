use Rattle.forms.proofs.callers.Marked.{marks_order}
use Rattle.forms.proofs.laws.marks_tell_order.Goals as goal

pub returns : goal.returns
returns c = marks_order

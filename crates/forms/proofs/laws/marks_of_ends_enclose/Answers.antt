use Rattle.forms.proofs.callers.Marked.{ends_enclose}
use Rattle.forms.proofs.laws.marks_of_ends_enclose.Goals as goal

pub returns : goal.returns
returns c = ends_enclose

use Rattle.forms.proofs.callers.Marked.{apart_from_left}
use Rattle.forms.proofs.laws.what_ends_left_is_apart.Goals as goal

pub returns : goal.returns
returns c = apart_from_left

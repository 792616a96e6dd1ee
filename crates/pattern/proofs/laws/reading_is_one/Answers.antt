use Rattle.pattern.proofs.callers.OneRefusal.{not_refused}
use Rattle.pattern.proofs.laws.reading_is_one.Goals as goal

pub returns : goal.returns
returns c = not_refused

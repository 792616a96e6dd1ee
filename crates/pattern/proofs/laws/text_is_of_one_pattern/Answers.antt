use Rattle.pattern.proofs.callers.OneText.{one_pattern}
use Rattle.pattern.proofs.laws.text_is_of_one_pattern.Goals as goal

pub returns : goal.returns
returns c = one_pattern

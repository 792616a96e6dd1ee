use Rattle.pattern.proofs.callers.SingleText.{one_crease_text}
use Rattle.pattern.proofs.laws.text_is_of_one_crease.Goals as goal

pub returns : goal.returns
returns c = one_crease_text

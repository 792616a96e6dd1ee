use Rattle.qroot2.proofs.callers.OneText.{text_injective}
use Rattle.qroot2.proofs.laws.text_is_of_one_number.Goals as goal

pub returns : goal.returns
returns c = text_injective

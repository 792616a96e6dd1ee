use Rattle.oriedit.proofs.OneText.{one_text}
use Rattle.oriedit.proofs.laws.cut_text_is_one.Goals as goal

pub returns : goal.returns
returns c = one_text

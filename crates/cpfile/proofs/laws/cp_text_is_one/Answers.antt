use Rattle.cpfile.proofs.OneCpText.{text_is_one}
use Rattle.cpfile.proofs.laws.cp_text_is_one.Goals as goal

pub returns : goal.returns
returns c = text_is_one

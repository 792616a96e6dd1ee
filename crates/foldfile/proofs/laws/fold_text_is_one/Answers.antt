use Rattle.foldfile.proofs.OneFoldText.{text_is_one}
use Rattle.foldfile.proofs.laws.fold_text_is_one.Goals as goal

pub returns : goal.returns
returns c = text_is_one

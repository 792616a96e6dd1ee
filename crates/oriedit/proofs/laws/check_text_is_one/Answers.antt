use Rattle.oriedit.proofs.OneCheckText.{one_check_text}
use Rattle.oriedit.proofs.laws.check_text_is_one.Goals as goal

pub returns : goal.returns
returns c = one_check_text c.cp_reading_is_one.ensures c.answer_is_one.ensures

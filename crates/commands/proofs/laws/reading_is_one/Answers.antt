use Rattle.commands.proofs.OneReading.{one_answer}
use Rattle.commands.proofs.laws.reading_is_one.Goals as goal

pub returns : goal.returns
returns c = one_answer c.text_is_of_one_number.ensures

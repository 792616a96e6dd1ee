use Rattle.commands.proofs.OneReading.{one_count}
use Rattle.commands.proofs.laws.wanted_is_one.Goals as goal

pub returns : goal.returns
returns c = one_count c.text_is_of_one_number.ensures

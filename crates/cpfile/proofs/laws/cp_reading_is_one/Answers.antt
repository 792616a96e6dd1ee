use Rattle.cpfile.proofs.OneReading.{reading_one}
use Rattle.cpfile.proofs.laws.cp_reading_is_one.Goals as goal

pub returns : goal.returns
returns c = reading_one

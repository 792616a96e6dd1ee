use Rattle.projects.proofs.Standing.{entry_exists, entry_is_one}
use Rattle.projects.proofs.laws.entry_is_one.Goals as goal

pub returns : goal.returns
returns c = record { some = entry_exists; one = entry_is_one }

use Rattle.oriedit.proofs.OneUnits.{units_one}
use Rattle.oriedit.proofs.laws.units_are_one.Goals as goal

pub returns : goal.returns
returns c = units_one c.wanted_is_one.ensures

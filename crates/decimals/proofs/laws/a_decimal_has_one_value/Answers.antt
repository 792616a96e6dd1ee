use Rattle.decimals.proofs.callers.Spelling.{decimal_one}
use Rattle.decimals.proofs.laws.a_decimal_has_one_value.Goals as goal

pub returns : goal.returns
returns c = decimal_one

use Rattle.decimals.proofs.ReadBack.{written_is_decimal}
use Rattle.decimals.proofs.laws.a_written_decimal_is_read.Goals as goal

pub returns : goal.returns
returns c = written_is_decimal

use Rattle.qroot2.proofs.callers.Reading.{none_long, some_long, no_numeral, no_zeros, numeral_read}
use Rattle.qroot2.proofs.text.numeral.Goals as goal

pub returns-then-is_empty : goal.returns-then-is_empty
returns-then-is_empty c = no_numeral c.args.bytes.now (none_long _ _ c.is_empty.ensures c.if-is_empty.true)

pub returns-then-bytes-gt1 : goal.returns-then-bytes-gt1
returns-then-bytes-gt1 c = no_zeros c.args.bytes.now c.if-bytes-eq48.true c.if-bytes-gt1.true

pub returns : goal.returns
returns c = numeral_read c.digits.result c.args.bytes.now (some_long _ _ c.is_empty.ensures c.if-is_empty.false) c.else-bytes-eq48.either c.digits.ensures

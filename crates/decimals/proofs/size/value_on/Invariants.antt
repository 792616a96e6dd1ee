use Rattle.std.proofs.Common.{◌≡◌, take, min}
use Rattle.qroot2.specs.Digits.{value_on as digits_on}
use Rattle.decimals.specs.Decimal.{cap}
use Rattle.decimals.proofs.size.value_on.Given as goal

abbrev pub invariant-loop-byte : goal.invariant-loop-byte
invariant-loop-byte l = l.value ≡ min (digits_on l.start (take l.byte-index l.digits)) cap

use Rattle.std.proofs.Common.{◌≡◌, ◌*◌, ◌^◌, min}
use Rattle.decimals.specs.Decimal.{cap}
use Rattle.decimals.proofs.size.times_ten.Given as goal

abbrev pub invariant-loop : goal.invariant-loop
invariant-loop l = l.value ≡ min (l.start * 10 ^ l.counter) cap

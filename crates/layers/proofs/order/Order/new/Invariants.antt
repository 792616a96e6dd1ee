use Rattle.std.proofs.Common.{◌≡◌, take, length}
use Rattle.layers.proofs.order.Order.new.Given as goal

abbrev pub invariant-loop-number : goal.invariant-loop-number
invariant-loop-number l = record { value : l.kept.items ≡ take l.number-index l.numbers; long : length l.kept.items ≡ l.number-index }

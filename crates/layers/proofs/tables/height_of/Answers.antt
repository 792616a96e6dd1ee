use Rattle.std.proofs.Common.{arith, refl, length, ◌≡◌}
use Rattle.layers.proofs.callers.Orders.{height_found, height_missing}
use Rattle.layers.proofs.tables.height_of.Goals as goal

pub returns-then-k-sector : goal.returns-then-k-sector
returns-then-k-sector c = height_found c.args.order.now c.loop-i.i c.args.sector c.loop-i-test.true c.loop-i.invariant c.if-k-sector.true

pub returns : goal.returns
returns c = let e : c.loop-i.i ≡ length c.args.order.now = omega arith in height_missing c.args.order.now (length c.args.order.now) c.args.sector refl (λ j h. c.loop-i.invariant j (omega arith))

use Rattle.std.proofs.Common.{arith, refl, length, ◌≡◌}
use Rattle.crimp.proofs.crimping.height_of.Goals as goal
use Rattle.layers.proofs.callers.Orders.{height_found, height_missing}

pub returns-then-k-number : goal.returns-then-k-number
returns-then-k-number c = height_found c.args.order.now c.loop-i.i c.args.number c.loop-i-test.true c.loop-i.invariant c.if-k-number.true

pub returns : goal.returns
returns c = let e : c.loop-i.i ≡ length c.args.order.now = omega arith in height_missing c.args.order.now (length c.args.order.now) c.args.number refl (λ j h. c.loop-i.invariant j (omega arith))

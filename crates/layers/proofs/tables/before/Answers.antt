use Rattle.std.proofs.Common.{arith}
use Rattle.layers.proofs.callers.Places.{before_first, before_later}
use Rattle.layers.proofs.tables.before.Goals as goal

pub returns-then-i-eq0-clause-value : goal.returns-then-i-eq0-clause-value
returns-then-i-eq0-clause-value c = before_first c.args.count c.args.i c.if-i-eq0.true

pub returns-else-i-eq0-clause-value : goal.returns-else-i-eq0-clause-value
returns-else-i-eq0-clause-value c = before_later c.args.count c.args.i (omega (arith, c.if-i-eq0.false))

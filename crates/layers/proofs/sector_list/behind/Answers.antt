use Rattle.layers.proofs.callers.Places.{behind_last, behind_other}
use Rattle.layers.proofs.sector_list.behind.Goals as goal

pub returns-then-i-count-clause-value : goal.returns-then-i-count-clause-value
returns-then-i-count-clause-value c = behind_last c.args.count c.args.i c.if-i-count.true

pub returns-else-i-count-clause-value : goal.returns-else-i-count-clause-value
returns-else-i-count-clause-value c = behind_other c.args.count c.args.i c.if-i-count.false

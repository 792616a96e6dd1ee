use Rattle.std.proofs.Common.{◌∙◌}
use Rattle.decimals.proofs.Scaling.{capped_ten, enough_zeros}
use Rattle.decimals.proofs.size.times_ten.Goals as goal

pub loop-preserved : goal.loop-preserved
loop-preserved c = c.min-value.ensures ∙ capped_ten c.loop.value c.args.start c.loop.counter c.loop.invariant

pub returns : goal.returns
returns c = enough_zeros c.loop.value c.args.start c.args.zeros c.loop.counter c.min-end.result c.loop.invariant c.min-end.ensures c.loop-test.false c.loop.auto.counter-end

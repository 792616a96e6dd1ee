use Rattle.std.proofs.Common.{below_more}
use Rattle.layers.specs.Rows.{NestsAll}
use Rattle.layers.proofs.rules.nests_creases.Goals as goal

pub loop-i-preserved : goal.loop-i-preserved
loop-i-preserved c = below_more (NestsAll c.args.sectors.now c.args.order.now) _ c.loop-i.invariant (c.nests_all.ensures.0 c.if-not-nests_all.false)

use Rattle.qroot2.proofs.callers.Splits.{lacks_more}
use Rattle.qroot2.proofs.text.place.Goals as goal

pub loop-i-preserved : goal.loop-i-preserved
loop-i-preserved c = lacks_more c.args.at c.args.bytes.now c.loop-i.i c.loop-i-test.true c.loop-i.invariant c.if-byte-at.false

use Rattle.qroot2.proofs.callers.Splits.{lacks_more}
use Rattle.plane.proofs.point_text.comma.Goals as goal

pub loop-i-preserved : goal.loop-i-preserved
loop-i-preserved c = lacks_more 44 c.args.bytes.now c.loop-i.i c.loop-i-test.true c.loop-i.invariant c.if-byte-eq44.false

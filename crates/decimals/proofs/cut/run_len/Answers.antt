use Rattle.qroot2.proofs.callers.Splits.{digits_more}
use Rattle.decimals.proofs.cut.run_len.Goals as goal

pub loop-i-preserved : goal.loop-i-preserved
loop-i-preserved c = digits_more c.args.bytes.now c.loop-i.i c.loop-i-test.true c.loop-i.invariant c.if-byte-lt48.false c.if-byte-gt57.false

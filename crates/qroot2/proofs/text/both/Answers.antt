use Rattle.qroot2.proofs.ReadingParts.{plus_read}
use Rattle.qroot2.proofs.text.both.Goals as goal

pub returns-in-Some : goal.returns-in-Some
returns-in-Some c = plus_read c.summands.result c.in-Some.whole.now c.in-Some.root.now c.args.bytes.now c.in-Some.ensures.0 c.in-Some.ensures.1 c.summands.ensures

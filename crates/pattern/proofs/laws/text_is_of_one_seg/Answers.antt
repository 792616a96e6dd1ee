use Rattle.pattern.proofs.callers.SingleText.{one_seg}
use Rattle.pattern.proofs.laws.text_is_of_one_seg.Goals as goal

pub returns : goal.returns
returns c = one_seg

use Rattle.judge.proofs.Faults.{tells}
use Rattle.judge.proofs.fault.fault_at.Goals as goal

pub returns-clause-tells : goal.returns-clause-tells
returns-clause-tells g c = rw c.failure.ensures (tells c.star_is_one.ensures c.verdict_is_one.ensures c.args.live.now c.args.at.now c.report_on.result c.report_on.ensures.report)

use Rattle.plane.proofs.callers.Meets.{meets_back}
use Rattle.plane.proofs.meeting.flat_across.Goals as goal

pub returns-clause-meets : goal.returns-clause-meets
returns-clause-meets c = meets_back c.args.s.now c.args.t.now c.upright_across.result c.upright_across.ensures.meets

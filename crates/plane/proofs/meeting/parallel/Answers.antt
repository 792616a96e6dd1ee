use Rattle.plane.proofs.callers.Told.{fails}
use Rattle.plane.proofs.callers.Meets.{one_line, two_lines}
use Rattle.plane.proofs.meeting.parallel.Goals as goal

pub collinear-requires : goal.collinear-requires
collinear-requires c = one_line c.args.s.now c.args.t.now c.p.result c.p-2.result c.args.dir c.p.ensures.value c.p-2.ensures.value c.requires.s c.requires.t (c.is_on_line.ensures.0 c.if-is_on_line.true)

pub returns-else-is_on_line-clause-meets : goal.returns-else-is_on_line-clause-meets
returns-else-is_on_line-clause-meets c = two_lines c.args.s.now c.args.t.now c.p.result c.p-2.result c.args.dir c.p.ensures.value c.p-2.ensures.value c.requires.s c.requires.t (fails c.is_on_line.ensures c.if-is_on_line.false)

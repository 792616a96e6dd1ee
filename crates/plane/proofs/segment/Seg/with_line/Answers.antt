use Rattle.plane.proofs.callers.Supports.{support_made}
use Rattle.plane.proofs.segment.Seg.with_line.Goals as goal

pub returns-clause-line : goal.returns-clause-line
returns-clause-line c = (let dir = c.in_ok-seg.ensures.dir in support_made c.in_ok-seg.seg c.p.result c.in_ok-seg.dir c.through.result dir.0 dir.1 c.p.ensures.value c.through.ensures.dir c.through.ensures.lowest c.through.ensures.offset)

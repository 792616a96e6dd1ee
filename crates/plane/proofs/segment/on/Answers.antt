use Rattle.plane.proofs.callers.Ends.{on_told, off_told}
use Rattle.plane.proofs.segment.on.Goals as goal

pub returns-then-is_between : goal.returns-then-is_between
returns-then-is_between c =
    on_told c.args.seg.now c.args.point.now c.p.result c.dir.result c.is_on_line.result c.p.ensures.segment c.p.ensures.value c.dir.ensures.small c.dir.ensures.leads (c.is_between.ensures.0 c.if-is_between.true) c.is_on_line.ensures

pub returns-else-is_between : goal.returns-else-is_between
returns-else-is_between c = off_told c.args.seg.now c.args.point.now c.is_between.result c.is_between.ensures c.if-is_between.false

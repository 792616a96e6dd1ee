use Rattle.plane.proofs.callers.Meets.{beside_told}
use Rattle.plane.proofs.sides.is_beside.Goals as goal

pub returns : goal.returns
returns c = beside_told c.args.seg.now c.args.at.now c.p.result c.q.result c.args.dir c.side.result c.side-2.result c.are_one_side.result c.p.ensures.value c.q.ensures.value c.side.ensures c.side-2.ensures c.are_one_side.ensures

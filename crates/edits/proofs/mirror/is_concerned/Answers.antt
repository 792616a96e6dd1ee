use Rattle.edits.proofs.mirrors.LeftSides.{concerned_told}
use Rattle.edits.proofs.mirror.is_concerned.Goals as goal

pub returns : goal.returns
returns c = concerned_told c.args.dir c.args.at.now c.p.result c.q.result c.args.seg.now c.side.result c.side-2.result c.are_left.result c.p.ensures.segment c.p.ensures.value c.q.ensures.value c.side.ensures c.side-2.ensures c.are_left.ensures

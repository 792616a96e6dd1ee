use Rattle.plane.proofs.SheetSides.{border_told}
use Rattle.plane.proofs.border.seg_on_border.Goals as goal

pub returns : goal.returns
returns c = border_told c.args.sheet.now c.args.seg.now c.p.result c.q.result c.are_on_side.result c.w-width.ensures.sheet c.p.ensures.segment c.p.ensures.value c.q.ensures.value c.are_on_side.ensures

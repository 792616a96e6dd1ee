use Rattle.plane.proofs.callers.Turns.{side_told}
use Rattle.plane.proofs.callers.Zeros.{offset_cross}
use Rattle.plane.specs.Ways.{root}
use Rattle.std.proofs.Common.{◌∙◌}
use Rattle.plane.proofs.sides.side.Goals as goal

pub returns : goal.returns
returns c = side_told c.args.at.now c.args.dir c.args.point.now c.offset.result c.sign.result (c.offset.ensures ∙ offset_cross c.args.dir c.args.at.now c.args.point.now (root c.new.result.x) (root c.new.result.y) c.new.ensures.x c.new.ensures.y) c.sign.ensures

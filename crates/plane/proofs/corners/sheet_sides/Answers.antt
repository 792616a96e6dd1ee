use Rattle.sheet.specs.Sheet.{corner}
use Rattle.plane.proofs.callers.Sides.{upright_along, flat_along}
use Rattle.plane.proofs.SidesMade.{side_segment}
use Rattle.plane.proofs.corners.sheet_sides.Goals as goal

pub joined-requires : goal.joined-requires
joined-requires c =
    let sheet = c.args.sheet.now in
    side_segment 4 c.corner.result c.corner-2.result (corner sheet 0 0) (corner sheet 0 1) c.corner.ensures c.corner-2.ensures (upright_along sheet 0 c.w-width.ensures.sheet)

pub joined-requires-2 : goal.joined-requires-2
joined-requires-2 c =
    let sheet = c.args.sheet.now in
    side_segment 0 c.corner-3.result c.corner-4.result (corner sheet 0 0) (corner sheet 1 0) c.corner-3.ensures c.corner-4.ensures (flat_along sheet 0 c.w-width.ensures.sheet)

pub joined-requires-3 : goal.joined-requires-3
joined-requires-3 c =
    let sheet = c.args.sheet.now in
    side_segment 0 c.corner-5.result c.corner-6.result (corner sheet 0 1) (corner sheet 1 1) c.corner-5.ensures c.corner-6.ensures (flat_along sheet 1 c.w-width.ensures.sheet)

pub joined-requires-4 : goal.joined-requires-4
joined-requires-4 c =
    let sheet = c.args.sheet.now in
    side_segment 4 c.corner-7.result c.corner-8.result (corner sheet 1 0) (corner sheet 1 1) c.corner-7.ensures c.corner-8.ensures (upright_along sheet 1 c.w-width.ensures.sheet)

use Rattle.sheet.specs.Sheet.{InSheet}
use Rattle.plane.proofs.callers.Told.{both_told}
use Rattle.plane.proofs.border.are_in_sheet.Goals as goal

pub returns-then-in_sheet : goal.returns-then-in_sheet
returns-then-in_sheet c =
    let sheet = c.args.sheet.now in
    both_told (InSheet sheet c.args.p.now) (InSheet sheet c.args.q.now) c.in_sheet.result c.in_sheet-then-in_sheet.result c.in_sheet.ensures c.if-in_sheet.true c.in_sheet-then-in_sheet.ensures

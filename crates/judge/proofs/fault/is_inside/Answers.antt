use Rattle.judge.proofs.Faults.{inside_by}
use Rattle.judge.proofs.fault.is_inside.Goals as goal

pub returns-then-in_sheet : goal.returns-then-in_sheet
returns-then-in_sheet c = inside_by c.args.sheet.now c.args.point.now c.in_sheet.result c.on_border.result c.w-width.ensures.sheet c.if-in_sheet.true c.in_sheet.ensures c.on_border.ensures

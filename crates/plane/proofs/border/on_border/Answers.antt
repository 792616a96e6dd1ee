use Rattle.std.proofs.Common.{◌∙◌, sym}
use Rattle.std.proofs.lemmas.Bool.{false≢true}
use Rattle.plane.proofs.callers.Sides.{on_side}
use Rattle.plane.proofs.border.on_border.Goals as goal

pub returns-then-in_sheet : goal.returns-then-in_sheet
returns-then-in_sheet c =
    let border = on_side c.args.sheet.now c.args.point.now c.w-width.ensures.sheet in
    (λ t. border.0 (c.in_sheet.ensures.0 c.if-in_sheet.true, c.has_end.ensures.0 t), λ o. c.has_end.ensures.1 (border.1 o).1)

pub returns-else-in_sheet : goal.returns-else-in_sheet
returns-else-in_sheet c = (
  λ t. absurd (false≢true (sym c.if-in_sheet.false ∙ t)),
  λ o. c.in_sheet.ensures.1 ((on_side c.args.sheet.now c.args.point.now c.w-width.ensures.sheet).1 o).0,
)

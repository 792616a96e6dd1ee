use Rattle.std.proofs.Common.{◌⊎◌}
use Rattle.exact.specs.Number.{Same}
use Rattle.exact.specs.Plane.{ExactPoint}
use Rattle.sheet.specs.Sheet.{ExactSheet, InSheet}
use Rattle.plane.specs.Corners.{IsEnd}
use Rattle.plane.proofs.callers.Told.{both_told, first_fails, first_holds, second_told}
use Rattle.plane.proofs.border.are_on_side.Goals as goal

abbrev In : ExactSheet → ExactPoint → ExactPoint → Type 0
In sheet p q = InSheet sheet p × InSheet sheet q

abbrev Upright : ExactSheet → ExactPoint → ExactPoint → Type 0
Upright sheet p q = Same p.x q.x × IsEnd sheet.w p.x

abbrev Flat : ExactSheet → ExactPoint → ExactPoint → Type 0
Flat sheet p q = Same p.y q.y × IsEnd sheet.h p.y

pub returns-then-are_on_upright : goal.returns-then-are_on_upright
returns-then-are_on_upright c =
    let sheet = c.args.sheet.now in
    let p = c.args.p.now in
    let q = c.args.q.now in
    both_told (In sheet p q) (Upright sheet p q ⊎ Flat sheet p q) c.are_in_sheet.result c.are_on_upright.result c.are_in_sheet.ensures c.if-are_in_sheet.true
    (first_holds (Upright sheet p q) (Flat sheet p q) c.are_on_upright.result c.are_on_upright.ensures c.if-are_on_upright.true)

pub returns-else-are_on_upright : goal.returns-else-are_on_upright
returns-else-are_on_upright c =
    let sheet = c.args.sheet.now in
    let p = c.args.p.now in
    let q = c.args.q.now in
    both_told (In sheet p q) (Upright sheet p q ⊎ Flat sheet p q) c.are_in_sheet.result c.are_on_flat.result c.are_in_sheet.ensures c.if-are_in_sheet.true
    (second_told (Upright sheet p q) (Flat sheet p q) c.are_on_upright.result c.are_on_flat.result c.are_on_upright.ensures c.if-are_on_upright.false c.are_on_flat.ensures)

pub returns-else-are_in_sheet : goal.returns-else-are_in_sheet
returns-else-are_in_sheet c =
    let sheet = c.args.sheet.now in
    let p = c.args.p.now in
    let q = c.args.q.now in
    first_fails (In sheet p q) (Upright sheet p q ⊎ Flat sheet p q) c.are_in_sheet.result c.are_in_sheet.ensures c.if-are_in_sheet.false

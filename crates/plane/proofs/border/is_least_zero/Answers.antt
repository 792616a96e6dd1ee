use Rattle.plane.proofs.Passed.{passed_small}
use Rattle.plane.proofs.SheetSides.{least_told}
use Rattle.plane.proofs.border.is_least_zero.Goals as goal

pub returns : goal.returns
returns c =
    let x = c.a.ensures.canonical in
    least_told c.args.x.now _ _ c.is_not_below_zero.result (passed_small c.a.result c.args.x.now.a c.a.ensures.value x.a) (passed_small c.b.result c.args.x.now.b c.b.ensures.value x.b) c.is_not_below_zero.ensures

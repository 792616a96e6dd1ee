use Rattle.plane.proofs.Passed.{passed_on, down_passed}
use Rattle.plane.proofs.SheetSides.{most_told}
use Rattle.plane.proofs.border.is_most.Goals as goal

pub returns : goal.returns
returns c =
    let x = c.room.ensures.canonical in
    most_told c.args.x.now c.args.n _ _ c.is_not_below_zero.result x.positive
    (passed_on c.room.result _ c.room.ensures.value c.room.ensures.within)
    (down_passed c.b.result c.args.x.now.b c.b.ensures.value x.b) c.is_not_below_zero.ensures

use Rattle.std.proofs.Common.{◌∙◌}
use Rattle.std.specs.Int.{w64}
use Rattle.std.proofs.lemmas.Int.{to_z-of_z}
use Rattle.plane.proofs.Passed.{difference_passed, difference_size}
use Rattle.plane.proofs.ways.crossed.Goals as goal

pub returns-clause-value : goal.returns-clause-value
returns-clause-value c =
    let x = to_z-of_z w64 c.args.x c.ranges.x in
    let y = to_z-of_z w64 c.args.y c.ranges.y in
    let d = to_z-of_z w64 c.args.d c.ranges.d in
    let e = to_z-of_z w64 c.args.e c.ranges.e in
    difference_passed c.part.result c.part-2.result c.part.ensures.within c.part-2.ensures.within
    ∙ rw (c.part.ensures.value, c.part-2.ensures.value, x, e, y, d)

pub returns-clause-within : goal.returns-clause-within
returns-clause-within c =
    rw (difference_passed c.part.result c.part-2.result c.part.ensures.within c.part-2.ensures.within) (difference_size c.part.result c.part-2.result c.part.ensures.within c.part-2.ensures.within)

use Rattle.std.proofs.Common.{arith}
use Rattle.plane.proofs.callers.Crossed.{lift_fits, lift_within}
use Rattle.plane.specs.Ways.{root}
use Rattle.plane.proofs.crossing.lifted.Goals as goal

pub scaled-requires : goal.scaled-requires
scaled-requires c = omega (arith, lift_fits c.args.dir (root c.from_origin.result.x) (root c.from_origin.result.y) (root c.offset.result) c.weight.result c.offset.ensures c.from_origin.ensures.within.0 c.from_origin.ensures.within.1 c.weight.ensures.within.1)

pub returns-clause-within : goal.returns-clause-within
returns-clause-within c =
    lift_within (root c.offset.result) (root c.scaled.result) c.weight.result (lift_fits c.args.dir (root c.from_origin.result.x) (root c.from_origin.result.y) (root c.offset.result) c.weight.result c.offset.ensures c.from_origin.ensures.within.0 c.from_origin.ensures.within.1 c.weight.ensures.within.1) c.scaled.ensures

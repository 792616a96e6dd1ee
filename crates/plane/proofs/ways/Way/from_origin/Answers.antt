use Rattle.plane.proofs.Numerators.{origin_x, origin_y, origin_within}
use Rattle.plane.specs.Ways.{root}
use Rattle.plane.proofs.ways.Way.from_origin.Goals as goal

pub returns-clause-x : goal.returns-clause-x
returns-clause-x c = origin_x _ c.args.point.now (root c.numerator.result) (root c.scaled.result) c.below.result c.scaled.ensures c.numerator.ensures.value c.below.ensures.value c.point.view_is

pub returns-clause-y : goal.returns-clause-y
returns-clause-y c = origin_y _ c.args.point.now (root c.numerator-2.result) (root c.scaled-2.result) c.below-2.result c.scaled-2.ensures c.numerator-2.ensures.value c.below-2.ensures.value c.point.view_is

pub returns-clause-within : goal.returns-clause-within
returns-clause-within c = (
  origin_within (root c.numerator.result) (root c.scaled.result) c.below.result c.scaled.ensures c.numerator.ensures.within c.below.ensures.within.1,
  origin_within (root c.numerator-2.result) (root c.scaled-2.result) c.below-2.result c.scaled-2.ensures c.numerator-2.ensures.within c.below-2.ensures.within.1,
)

use Rattle.plane.proofs.Numerators.{gx_made, gy_made, multiple_within}
use Rattle.plane.specs.Ways.{root}
use Rattle.plane.proofs.ways.Way.new.Goals as goal

pub returns-clause-x : goal.returns-clause-x
returns-clause-x c = gx_made _ _ c.args.from.now c.args.to.now (root c.difference.result) (root c.scaled.result) c.denominator.result c.scaled.ensures c.difference.ensures.value c.denominator.ensures.value c.from.view_is c.to.view_is

pub returns-clause-y : goal.returns-clause-y
returns-clause-y c = gy_made _ _ c.args.from.now c.args.to.now (root c.difference-2.result) (root c.scaled-2.result) c.denominator-2.result c.scaled-2.ensures c.difference-2.ensures.value c.denominator-2.ensures.value c.from.view_is c.to.view_is

pub returns-clause-within : goal.returns-clause-within
returns-clause-within c = (
  multiple_within (root c.difference.result) (root c.scaled.result) c.denominator.result c.scaled.ensures c.difference.ensures.within c.denominator.ensures.within,
  multiple_within (root c.difference-2.result) (root c.scaled-2.result) c.denominator-2.result c.scaled-2.ensures c.difference-2.ensures.within c.denominator-2.ensures.within,
)

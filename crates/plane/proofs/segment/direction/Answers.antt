use Rattle.plane.proofs.Found.{level_found, plumb_found, slant_found, none_found}
use Rattle.plane.specs.Ways.{root}
use Rattle.plane.proofs.segment.direction.Goals as goal

pub returns-then-is_level-clause-some : goal.returns-then-is_level-clause-some
returns-then-is_level-clause-some c = level_found c.args.from.now c.args.to.now c.new.result c.requires (c.is_level.ensures.0 c.if-is_level.true) c.new.ensures.some

pub returns-then-is_plumb-clause-some : goal.returns-then-is_plumb-clause-some
returns-then-is_plumb-clause-some c = plumb_found c.args.from.now c.args.to.now c.new-then-is_plumb.result c.requires (c.is_plumb.ensures.0 c.if-is_plumb.true) c.new-then-is_plumb.ensures.some

pub returns-else-is_plumb-clause-some : goal.returns-else-is_plumb-clause-some
returns-else-is_plumb-clause-some c = slant_found c.args.from.now c.args.to.now c.slanted.result (root c.new-else-is_plumb.result.x) (root c.new-else-is_plumb.result.y) c.requires c.new-else-is_plumb.ensures.x c.new-else-is_plumb.ensures.y c.slanted.ensures.some

pub returns-else-is_plumb-clause-none : goal.returns-else-is_plumb-clause-none
returns-else-is_plumb-clause-none c = λ none. none_found c.args.from.now c.args.to.now (root c.new-else-is_plumb.result.x) (root c.new-else-is_plumb.result.y) c.requires c.new-else-is_plumb.ensures.x c.new-else-is_plumb.ensures.y (c.slanted.ensures.none none)

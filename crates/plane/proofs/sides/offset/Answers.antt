use Rattle.plane.proofs.Numerators.{unit_size, offset_is}
use Rattle.plane.specs.Ways.{root}
use Rattle.plane.proofs.sides.offset.Goals as goal

pub cross_product-requires-clause-vx : goal.cross_product-requires-clause-vx
cross_product-requires-clause-vx c = unit_size c.vector-x.result.0 c.vector-x.ensures.small.0

pub cross_product-requires-clause-vy : goal.cross_product-requires-clause-vy
cross_product-requires-clause-vy c = unit_size c.vector-x.result.1 c.vector-x.ensures.small.1

pub returns : goal.returns
returns c = offset_is c.args.dir c.vector-x.result.0 c.vector-x.result.1 c.cross_product.result (root c.args.way.now.x) (root c.args.way.now.y) c.vector-x.ensures.x c.vector-x.ensures.y c.cross_product.ensures.value

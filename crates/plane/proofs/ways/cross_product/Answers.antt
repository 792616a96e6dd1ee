use Rattle.plane.proofs.Numerators.{part_within, parts_fit, parts_differ, parts_bound}
use Rattle.plane.specs.Ways.{root}
use Rattle.plane.proofs.ways.cross_product.Goals as goal

pub product-requires : goal.product-requires
product-requires c = part_within (root c.args.vx) (root c.args.y) c.requires.vx c.requires.y

pub product-requires-2 : goal.product-requires-2
product-requires-2 c = part_within (root c.args.vy) (root c.args.x) c.requires.vy c.requires.x

pub sub-requires : goal.sub-requires
sub-requires c = parts_fit (root c.args.vx) (root c.args.vy) (root c.args.y) (root c.args.x) c.product.result c.product-2.result c.product.ensures c.product-2.ensures c.requires.vx c.requires.vy c.requires.y c.requires.x

pub returns-clause-value : goal.returns-clause-value
returns-clause-value c = parts_differ (root c.args.vx) (root c.args.vy) (root c.args.y) (root c.args.x) c.product.result c.product-2.result c.sub.result c.product.ensures c.product-2.ensures c.sub.ensures

pub returns-clause-within : goal.returns-clause-within
returns-clause-within c =
    parts_bound (root c.args.vx) (root c.args.vy) (root c.args.y) (root c.args.x) (root c.sub.result)
    (parts_differ (root c.args.vx) (root c.args.vy) (root c.args.y) (root c.args.x) c.product.result c.product-2.result c.sub.result c.product.ensures c.product-2.ensures c.sub.ensures)
    c.requires.vx c.requires.vy c.requires.y c.requires.x

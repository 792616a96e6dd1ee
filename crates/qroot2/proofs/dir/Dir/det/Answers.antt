use Rattle.exact.specs.Plane.{vector}
use Rattle.qroot2.proofs.Vectors.{turn_number}
use Rattle.qroot2.proofs.dir.Dir.det.Goals as goal

pub returns : goal.returns
returns c = turn_number c.vector-x.result.0 c.vector-x.result.1 c.vector-u.result.0 c.vector-u.result.1 c.product.result c.product-2.result c.sub.result (vector c.args.first) (vector c.args.second) c.vector-x.ensures.x c.vector-x.ensures.y c.vector-u.ensures.x c.vector-u.ensures.y c.product.ensures.value c.product-2.ensures.value c.sub.ensures

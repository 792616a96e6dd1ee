use Rattle.plane.proofs.callers.Zeros.{fields_told, same_told}
use Rattle.plane.proofs.order.is_same.Goals as goal

pub returns-clause-same : goal.returns-clause-same
returns-clause-same c = same_told c.args.x.now c.args.y.now c.eq.result c.d-x.ensures.canonical c.d-y.ensures.canonical (fields_told c.args.x.now c.args.y.now c.eq.result c.eq.ensures)

pub returns-clause-equal : goal.returns-clause-equal
returns-clause-equal c = fields_told c.args.x.now c.args.y.now c.eq.result c.eq.ensures

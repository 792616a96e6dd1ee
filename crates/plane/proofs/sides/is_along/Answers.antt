use Rattle.plane.proofs.callers.Zeros.{along_told, not_along}
use Rattle.plane.specs.Ways.{root}
use Rattle.plane.proofs.sides.is_along.Goals as goal

pub returns-then-a-eq0 : goal.returns-then-a-eq0
returns-then-a-eq0 c = along_told c.offset-off.result c.args.dir (root c.args.way.now.x) (root c.args.way.now.y) c.a.result c.b.result c.offset-off.ensures c.a.ensures.value c.b.ensures.value c.a.ensures.bound c.b.ensures.bound c.if-a-eq0.true

pub returns-else-a-eq0 : goal.returns-else-a-eq0
returns-else-a-eq0 c = not_along c.offset-off.result c.args.dir (root c.args.way.now.x) (root c.args.way.now.y) c.a.result c.offset-off.ensures c.a.ensures.value c.if-a-eq0.false

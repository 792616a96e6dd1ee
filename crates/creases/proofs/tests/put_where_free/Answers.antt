use Rattle.std.proofs.Common.{subst}
use Rattle.sheet.specs.Pattern.{ExactCrease}
use Rattle.creases.specs.Creases.{IsFree}
use Rattle.creases.proofs.tests.put_where_free.Goals as goal

pub put-requires : goal.put-requires
put-requires c = subst (λ (f : ExactCrease). IsFree c.args.map.now f.seg) c.crease.view_is (c.is_free.ensures.free.0 c.if-not-is_free.false)

use Rattle.std.proofs.Common.{refl}
use Rattle.plane.proofs.callers.Told.{fails}
use Rattle.subdivide.proofs.Noted.{refused_now, refused_again}
use Rattle.subdivide.proofs.found.Found.refuse.Goals as goal

pub returns-then-not-is_at_most : goal.returns-then-not-is_at_most
returns-then-not-is_at_most c = refused_now c.args.first c.args.second c.args.self.now _ (fails c.is_at_most.ensures c.if-not-is_at_most.true) refl refl refl refl

pub returns-else-not-is_at_most : goal.returns-else-not-is_at_most
returns-else-not-is_at_most c = refused_again c.args.first c.args.second c.args.self.now (c.is_at_most.ensures.0 c.if-not-is_at_most.false)

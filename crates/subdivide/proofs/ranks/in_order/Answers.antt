use Rattle.std.proofs.Common.{arith, refl, sym, subst, length}
use Rattle.std.proofs.lemmas.Option.{slice_get_read}
use Rattle.subdivide.specs.Ranks.{AreNumbered}
use Rattle.subdivide.proofs.Ranked.{none_numbered, one_numbered, all_numbered}
use Rattle.subdivide.proofs.ranks.in_order.Goals as goal

pub loop-number-init : goal.loop-number-init
loop-number-init c = subst (AreNumbered c.args.points.now 0) (sym c.in_ok-list.ensures.items) (none_numbered c.args.points.now)

pub loop-number-preserved : goal.loop-number-preserved
loop-number-preserved c = one_numbered c.args.points.now c.loop-number.number _ c.index-points-number.result c.loop-number.list.items _
    (slice_get_read c.args.points.now (length c.args.points.now) c.loop-number.number c.index-points-number.result refl (omega arith) c.index-points-number.is)
    c.in_ok-narrow.ensures c.loop-number.invariant c.in_ok-push.ensures.items

pub returns : goal.returns
returns c = all_numbered c.args.points.now c.loop-number.number c.loop-number.list.items (omega arith) c.loop-number.invariant

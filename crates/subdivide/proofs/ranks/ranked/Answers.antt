use Rattle.std.proofs.Common.{arith, refl, sym, subst, length}
use Rattle.std.proofs.lemmas.Option.{slice_get_read}
use Rattle.subdivide.specs.Ranks.{AreOrdered}
use Rattle.subdivide.proofs.Ranked.{AreRankedTo, none_ranked, one_ranked, all_ranked, number_within}
use Rattle.subdivide.proofs.ranks.ranked.Goals as goal

pub loop-point-init : goal.loop-point-init
loop-point-init c = subst (λ z. AreRankedTo c.args.points.now c.deref-point-items.result.now 0 z c.in_ok-ranks.ranks.items) (sym c.new-vertices.ensures.items)
    (none_ranked c.args.points.now c.deref-point-items.result.now c.in_ok-ranks.ranks.items c.in_ok-ranks.ensures)

pub index_mut-requires : goal.index_mut-requires
index_mut-requires c =
    let within = number_within c.args.points.now c.deref-point-items.result.now c.loop-point.point-index c.point-item.result c.loop-point.vertices.items
    c.loop-point.ranks.items (subst (AreOrdered c.args.points.now) (sym c.deref-point-items.ensures.value) c.in_ok-list.ensures)
    (slice_get_read c.deref-point-items.result.now (length c.deref-point-items.result.now) c.loop-point.point-index c.point-item.result refl (omega arith) c.point-item.is)
    c.loop-point.invariant in
    omega (arith, within, c.loop-point.ranks.ok.0)

pub loop-point-preserved : goal.loop-point-preserved
loop-point-preserved c =
    one_ranked c.args.points.now c.deref-point-items.result.now c.loop-point.point-index c.point-item.result c.loop-point.vertices.items c.put_last.new.list.items
    c.loop-point.ranks.items c.in_ok-ranks-2.field-0 (subst (AreOrdered c.args.points.now) (sym c.deref-point-items.ensures.value) c.in_ok-list.ensures)
    (slice_get_read c.deref-point-items.result.now (length c.deref-point-items.result.now) c.loop-point.point-index c.point-item.result refl (omega arith) c.point-item.is)
    c.in_ok-put_last.ensures (omega (arith, c.in_ok-ranks-2.ensures, c.len.ensures, c.put_last.new.list.ok.0)) c.loop-point.invariant

pub returns : goal.returns
returns c = all_ranked c.args.points.now c.deref-point-items.result.now c.loop-point.point-index c.loop-point.vertices.items c.loop-point.ranks.items
    (subst (AreOrdered c.args.points.now) (sym c.deref-point-items.ensures.value) c.in_ok-list.ensures) (omega arith) c.loop-point.invariant

use Rattle.plane.proofs.callers.Told.{fails}
use Rattle.plane.proofs.callers.Meets.{ends, apart, overlap, part, touch}
use Rattle.plane.proofs.meeting.collinear.Goals as goal

pub returns-then-is_before-clause-meets : goal.returns-then-is_before-clause-meets
returns-then-is_before-clause-meets c =
    apart c.args.s.now c.args.t.now c.later-lo.result c.earlier-hi.result c.requires
    (ends c.args.s.now c.args.t.now c.later-lo.result c.earlier-hi.result _ _ _ _ c.p.ensures.value c.p-2.ensures.value c.q.ensures.value c.q-2.ensures.value c.later-lo.ensures c.earlier-hi.ensures)
    (c.is_before.ensures.0 c.if-is_before.true)

pub joined-requires : goal.joined-requires
joined-requires c =
    part c.args.s.now c.args.t.now c.later-lo.result c.earlier-hi.result c.requires
    (ends c.args.s.now c.args.t.now c.later-lo.result c.earlier-hi.result _ _ _ _ c.p.ensures.value c.p-2.ensures.value c.q.ensures.value c.q-2.ensures.value c.later-lo.ensures c.earlier-hi.ensures)
    (c.is_before-else-is_before.ensures.0 c.if-is_before-2.true)

pub returns-then-is_before-2-clause-meets : goal.returns-then-is_before-2-clause-meets
returns-then-is_before-2-clause-meets c =
    overlap c.args.s.now c.args.t.now c.joined.result c.later-lo.result c.earlier-hi.result c.requires
    (ends c.args.s.now c.args.t.now c.later-lo.result c.earlier-hi.result _ _ _ _ c.p.ensures.value c.p-2.ensures.value c.q.ensures.value c.q-2.ensures.value c.later-lo.ensures c.earlier-hi.ensures)
    (c.is_before-else-is_before.ensures.0 c.if-is_before-2.true) c.joined.ensures.is

pub returns-else-is_before-2-clause-meets : goal.returns-else-is_before-2-clause-meets
returns-else-is_before-2-clause-meets c =
    touch c.args.s.now c.args.t.now c.later-lo.result c.earlier-hi.result c.requires
    (ends c.args.s.now c.args.t.now c.later-lo.result c.earlier-hi.result _ _ _ _ c.p.ensures.value c.p-2.ensures.value c.q.ensures.value c.q-2.ensures.value c.later-lo.ensures c.earlier-hi.ensures)
    (fails c.is_before.ensures c.if-is_before.false) (fails c.is_before-else-is_before.ensures c.if-is_before-2.false)

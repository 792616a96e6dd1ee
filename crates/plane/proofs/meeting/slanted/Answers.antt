use Rattle.std.proofs.Common.{inl, inr}
use Rattle.plane.proofs.callers.Told.{fails}
use Rattle.plane.proofs.callers.Meets.{not_equal, apart_beside, at_told, out_told}
use Rattle.plane.proofs.meeting.slanted.Goals.{then-is_beside-via-then-is_beside, then-is_beside-via-else-is_beside+then-is_beside-2}
use Rattle.plane.proofs.meeting.slanted.Goals as goal

pub returns-then-is_beside-clause-meets : goal.returns-then-is_beside-clause-meets
returns-then-is_beside-clause-meets c =
    apart_beside c.args.s.now c.args.t.now c.p-p.result c.p-q.result c.args.k c.args.j c.p-p.ensures.value c.p-q.ensures.value c.requires.s c.requires.t c.requires.different
    (elim c.then-is_beside.branch [
      | then-is_beside-via-then-is_beside w ↦ inr (c.is_beside.ensures.0 w.if-is_beside.true)
      | then-is_beside-via-else-is_beside+then-is_beside-2 w ↦ inl (w.is_beside-else-is_beside.ensures.0 w.if-is_beside-2.true)
    ])

pub cross_lines-requires : goal.cross_lines-requires
cross_lines-requires c = not_equal c.args.s.now c.args.t.now c.args.k c.args.j c.requires.s c.requires.t c.requires.different

pub returns-in-Some-clause-meets : goal.returns-in-Some-clause-meets
returns-in-Some-clause-meets c =
    at_told c.args.s.now c.args.t.now c.p-p.result c.p-q.result c.args.k c.args.j c.in-Some.point
    (record {
      from = c.p-p.ensures.value;
      other = c.p-q.ensures.value;
      first = c.requires.s;
      second = c.requires.t;
      different = c.requires.different;
      not_first = fails c.is_beside-else-is_beside.ensures c.if-is_beside-2.false;
      not_second = fails c.is_beside.ensures c.if-is_beside.false;
    })
    c.in-Some.ensures.some

pub returns-in-None-clause-meets : goal.returns-in-None-clause-meets
returns-in-None-clause-meets c =
    out_told c.args.s.now c.args.t.now c.p-p.result c.p-q.result c.args.k c.args.j
    (record {
      from = c.p-p.ensures.value;
      other = c.p-q.ensures.value;
      first = c.requires.s;
      second = c.requires.t;
      different = c.requires.different;
      not_first = fails c.is_beside-else-is_beside.ensures c.if-is_beside-2.false;
      not_second = fails c.is_beside.ensures c.if-is_beside.false;
    })
    c.in-None.ensures.none

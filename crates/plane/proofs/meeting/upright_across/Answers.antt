use Rattle.std.proofs.Common.{inl, inr}
use Rattle.plane.proofs.callers.Told.{fails}
use Rattle.plane.proofs.callers.Meets.{across_at, across_none}
use Rattle.plane.proofs.meeting.upright_across.Goals.{else-is_between-via-then-is_between+else-is_between-2, else-is_between-via-else-is_between}
use Rattle.plane.proofs.meeting.upright_across.Goals as goal

pub returns-then-is_between-2-clause-meets : goal.returns-then-is_between-2-clause-meets
returns-then-is_between-2-clause-meets c =
    across_at c.args.s.now c.args.t.now c.p.result c.p-2.result c.corner-at.result c.p.ensures.value c.p-2.ensures.value c.corner-at.ensures c.requires.s c.requires.t
    (c.is_between.ensures.0 c.if-is_between.true) (c.is_between-then-is_between.ensures.0 c.if-is_between-2.true)

pub returns-else-is_between-clause-meets : goal.returns-else-is_between-clause-meets
returns-else-is_between-clause-meets c =
    across_none c.args.s.now c.args.t.now c.p.result c.p-2.result c.corner-at.result c.p.ensures.value c.p-2.ensures.value c.corner-at.ensures c.requires.s c.requires.t
    (elim c.else-is_between.branch [
      | else-is_between-via-then-is_between+else-is_between-2 w ↦ inr (fails w.is_between-then-is_between.ensures w.if-is_between-2.false)
      | else-is_between-via-else-is_between w ↦ inl (fails c.is_between.ensures w.if-is_between.false)
    ])

use Rattle.std.proofs.Common.{◌∙◌, sym, subst}
use Rattle.geometry.specs.Meeting.{Along}
use Rattle.plane.proofs.callers.Meets.{along_told}
use Rattle.plane.proofs.meeting.meet.Goals as goal

pub parallel-requires-clause-s : goal.parallel-requires-clause-s
parallel-requires-clause-s g c = along_told c.args.s.now c.dir-k.result c.dir-k.ensures.segment c.dir-k.ensures.small c.dir-k.ensures.leads

pub parallel-requires-clause-t : goal.parallel-requires-clause-t
parallel-requires-clause-t g c =
    subst (λ n. Along c.args.t.now n) (sym c.number-2.ensures.value ∙ sym c.if-number.true ∙ c.number.ensures.value)
    (along_told c.args.t.now c.dir-j.result c.dir-j.ensures.segment c.dir-j.ensures.small c.dir-j.ensures.leads)

pub not_parallel-requires-clause-s : goal.not_parallel-requires-clause-s
not_parallel-requires-clause-s g c = along_told c.args.s.now c.dir-k.result c.dir-k.ensures.segment c.dir-k.ensures.small c.dir-k.ensures.leads

pub not_parallel-requires-clause-t : goal.not_parallel-requires-clause-t
not_parallel-requires-clause-t g c = along_told c.args.t.now c.dir-j.result c.dir-j.ensures.segment c.dir-j.ensures.small c.dir-j.ensures.leads

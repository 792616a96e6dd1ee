use Rattle.std.proofs.Common.{subst}
use Rattle.std.specs.Prelude.{Ok}
use Rattle.ports.specs.Doors.{HandsOut}
use Rattle.ports.specs.declared.streams.Failed.{Failed}
use Rattle.oriedit.specs.Connections.{end_side}
use Rattle.oriedit.proofs.HandingOut.{handed_one}
use Rattle.oriedit.proofs.serving.serve_next.Goals as goal

pub returns-clause-next : goal.returns-clause-next
returns-clause-next g c = (
  end_side (g.D.End.Source.left c.in-Some.end) (g.D.End.Source.faults c.in-Some.end) (g.D.End.Sink.held c.in-Some.end) (g.D.End.Sink.faults c.in-Some.end),
  end_side (g.D.End.Source.left c.answer_one.new.end) (g.D.End.Source.faults c.answer_one.new.end) (g.D.End.Sink.held c.answer_one.new.end) (g.D.End.Sink.faults c.answer_one.new.end),
  c.answer_one.result,
  handed_one Failed (λ e. end_side (g.D.End.Source.left e) (g.D.End.Source.faults e) (g.D.End.Sink.held e) (g.D.End.Sink.faults e)) (g.D.Door.ends c.args.door.now) (g.D.Door.ends c.next.new.self) (g.D.Door.ends c.finish.new.self) c.in-Some.end c.answer_one.new.end
      (subst (λ o. HandsOut {F = Failed} (g.D.Door.ends c.args.door.now) (g.D.Door.ends c.next.new.self) (Ok o)) c.in-Some.is c.in_ok-end.ensures.ends) c.finish.ensures.ends,
  c.answer_one.ensures.served,
)

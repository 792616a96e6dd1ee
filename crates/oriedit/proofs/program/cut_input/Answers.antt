use Rattle.std.proofs.Common.{subst, List, ℕ}
use Rattle.oriedit.specs.CutText.{CutText}
use Rattle.oriedit.specs.Run.{Answers}
use Rattle.oriedit.proofs.Ending.{ends}
use Rattle.oriedit.proofs.program.cut_input.Goals as goal

pub returns-in-Ok-clause-cut : goal.returns-in-Ok-clause-cut
returns-in-Ok-clause-cut g c = (
  c.in-Ok.bytes.items,
  c.in-Ok.ensures.bytes.0,
  ends CutText c.in-Ok.bytes.items _ _ _ _ c.in-Ok.ensures.bytes.1 c.in-Ok.ensures.bytes.2
      (let P : List ℕ → Type 0 = λ bytes. Answers CutText bytes (g.W.Sink.held c.args.sink.now) (g.W.Sink.held c.cut.new.sink) c.cut.result in
      subst P c.deref.ensures.value c.cut.ensures.bytes),
)

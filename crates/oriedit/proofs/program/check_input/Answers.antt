use Rattle.std.proofs.Common.{subst, List, ℕ}
use Rattle.oriedit.specs.CheckText.{CheckText}
use Rattle.oriedit.specs.Run.{Answers}
use Rattle.oriedit.proofs.Ending.{ends}
use Rattle.oriedit.proofs.program.check_input.Goals as goal

pub returns-in-Ok-clause-check : goal.returns-in-Ok-clause-check
returns-in-Ok-clause-check g c = (
  c.in-Ok.bytes.items,
  c.in-Ok.ensures.bytes.0,
  ends (CheckText c.args.lattice.now c.args.sheet.now) c.in-Ok.bytes.items _ _ _ _ c.in-Ok.ensures.bytes.1 c.in-Ok.ensures.bytes.2
      (let P : List ℕ → Type 0 = λ bytes. Answers (CheckText c.args.lattice.now c.args.sheet.now) bytes (g.W.Sink.held c.args.sink.now) (g.W.Sink.held c.check.new.sink) c.check.result in
      subst P c.deref.ensures.value c.check.ensures.bytes),
)

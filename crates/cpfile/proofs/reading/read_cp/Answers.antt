use Rattle.std.proofs.Common.{Ok, Err, sym, subst, ◌∙◌}
use Rattle.ports.specs.Stops.{Answers}
use Rattle.cpfile.specs.CpDrawing.{DrawsLine}
use Rattle.cpfile.specs.CpReading.{ReadsCp}
use Rattle.cpfile.specs.CpAxes.{Ruled}
use Rattle.cpfile.specs.CpSteps.{IsReadUpTo}
use Rattle.chains.proofs.callers.Elements.{no_elements, some_elements}
use Rattle.cpfile.proofs.callers.WholeText.{read_more, read_all, read_bad}
use Rattle.cpfile.proofs.reading.read_cp.Goals as goal

pub returns-in-Err : goal.returns-in-Err
returns-in-Err c =
    let r : Ruled = record { lattice = c.args.lattice.now; sheet = c.args.sheet.now } in
    let bytes = c.args.bytes.now in
    let line = c.first_line.result.0.now in
    subst (λ s. Answers (ReadsCp r.lattice r.sheet bytes) (Err s)) (sym c.at_line.ensures)
    (read_bad r bytes c.loop-rest.rest.now line c.first_line.result.1.now c.loop-rest.tally c.next.result c.in-Err.stop (some_elements _ _ c.is_empty.ensures c.loop-rest-test.true) c.first_line.ensures
    (subst (λ (s : Ruled). Answers (DrawsLine s.lattice r.sheet line) (Err c.in-Err.stop)) c.loop-rest.invariant.ruled c.in-Err.ensures.draws) c.next.ensures c.loop-rest.invariant.read)

pub loop-rest-preserved : goal.loop-rest-preserved
loop-rest-preserved c =
    let r : Ruled = record { lattice = c.args.lattice.now; sheet = c.args.sheet.now } in
    let bytes = c.args.bytes.now in
    let line = c.first_line.result.0.now in
    let after = c.first_line.result.1.now in
    record {
      ruled = c.line.ensures.same ∙ c.loop-rest.invariant.ruled;
      read = subst (IsReadUpTo r bytes after) (sym c.in_ok-add-in-Ok.ensures)
          (read_more r bytes c.loop-rest.rest.now line after c.loop-rest.tally c.in-Ok.drawn (some_elements _ _ c.is_empty.ensures c.loop-rest-test.true) c.first_line.ensures
          (subst (λ (s : Ruled). DrawsLine s.lattice r.sheet line (Ok c.in-Ok.drawn)) c.loop-rest.invariant.ruled c.in-Ok.ensures.draws) c.loop-rest.invariant.read);
    }

pub returns : goal.returns
returns c =
    let r : Ruled = record { lattice = c.args.lattice.now; sheet = c.args.sheet.now } in
    read_all r c.args.bytes.now c.loop-rest.rest.now c.loop-rest.tally c.drawn.result (no_elements _ _ c.is_empty.ensures c.loop-rest-test.false) c.drawn.ensures.creases c.drawn.ensures.dropped c.loop-rest.invariant.read

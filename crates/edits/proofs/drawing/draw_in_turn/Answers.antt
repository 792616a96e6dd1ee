use Rattle.std.proofs.Common.{◌∙◌, get_or, sym, subst}
use Rattle.std.proofs.lemmas.Result.{err_from_is_err_and}
use Rattle.sheet.specs.Pattern.{ExactCrease, ExactPattern, IsKey}
use Rattle.edits.proofs.Each.{turn_next, turn_stopped}
use Rattle.edits.proofs.drawing.draw_in_turn.Goals as goal

pub returns-in_err-draw_one-clause-err : goal.returns-in_err-draw_one-clause-err
returns-in_err-draw_one-clause-err c = let p = err_from_is_err_and c.from_residual.result c.from_residual.ensures.1 in
    rw p.1 (turn_stopped c.args.creases.now c.loop-crease.crease-index c.crease-item.result c.args.draft.now.creases c.loop-crease.draft.creases p.0
    c.loop-crease-test.true c.crease-item.is c.loop-crease.invariant.drawn (rw p.2 c.in_err-draw_one.ensures.err))

pub loop-crease-preserved : goal.loop-crease-preserved
loop-crease-preserved c = record {
  drawn = turn_next c.args.creases.now c.loop-crease.crease-index c.crease-item.result c.args.draft.now.creases c.loop-crease.draft.creases c.draw_one.new.draft.creases c.loop-crease-test.true c.crease-item.is c.loop-crease.invariant.drawn c.in_ok-draw_one.ensures.ok;
  pattern = c.in_ok-draw_one.ensures.pattern;
  same = c.draw_one.ensures.same ∙ c.loop-crease.invariant.same;
}

pub draw_one-requires-clause-key : goal.draw_one-requires-clause-key
draw_one-requires-clause-key c =
    let here : IsKey c.args.draft.now.pattern.sheet (get_or c.args.creases.now c.loop-crease.crease-index c.crease-item.result).seg = c.requires.keys c.loop-crease.crease-index c.crease-item.result c.loop-crease-test.true in
    subst (λ (p : ExactPattern). IsKey p.sheet c.crease-item.result.seg) (sym c.loop-crease.invariant.same) (subst (λ (f : ExactCrease). IsKey c.args.draft.now.pattern.sheet f.seg) (sym c.crease-item.is) here)

use Rattle.std.proofs.Common.{◌+◌, List, take, subst}
use Rattle.std.specs.Prelude.{Ok}
use Rattle.std.proofs.lemmas.List.{take_all}
use Rattle.std.proofs.lemmas.Result.{err_from_is_err_and}
use Rattle.sheet.specs.Pattern.{ExactCrease, IsKey}
use Rattle.pattern.proofs.callers.Told.{all_next, all_tested, more_taken}
use Rattle.edits.specs.Lines.{LineOf, LinesOf}
use Rattle.edits.proofs.Each.{each_next, each_refused}
use Rattle.edits.proofs.lines.test_lines.Goals as goal

pub returns-in_err-test_line-clause-err : goal.returns-in_err-test_line-clause-err
returns-in_err-test_line-clause-err c = let p = err_from_is_err_and c.from_residual.result c.from_residual.ensures.1 in
    rw p.1 (each_refused (LineOf c.args.sheet.now) c.args.creases.now c.loop-crease.crease-index c.crease-item.result (take c.loop-crease.crease-index c.args.creases.now) p.0
    c.loop-crease-test.true c.crease-item.is c.loop-crease.invariant.lines (rw p.2 c.in_err-test_line.ensures.err))

pub loop-crease-preserved : goal.loop-crease-preserved
loop-crease-preserved c =
    let i = c.loop-crease.crease-index in
    let xs = c.args.creases.now in
    let x : ExactCrease = c.crease-item.result in record {
      lines = subst (λ (zs : List ExactCrease). LinesOf c.args.sheet.now (take (i + 1) xs) (Ok zs)) (more_taken xs i x c.loop-crease-test.true c.crease-item.is)
          (each_next (LineOf c.args.sheet.now) xs i x (take i xs) x c.loop-crease-test.true c.crease-item.is c.loop-crease.invariant.lines c.in_ok-test_line.ensures.ok);
      keys = all_next (λ (f : ExactCrease). IsKey c.args.sheet.now f.seg) xs i x c.loop-crease-test.true c.crease-item.is c.loop-crease.invariant.keys c.in_ok-test_line.ensures.key;
    }

pub returns-clause-ok : goal.returns-clause-ok
returns-clause-ok c = subst (λ (zs : List ExactCrease). LinesOf c.args.sheet.now zs (Ok zs)) (take_all c.loop-crease.crease-index c.args.creases.now c.loop-crease-test.false) c.loop-crease.invariant.lines

pub returns-clause-keys : goal.returns-clause-keys
returns-clause-keys c = all_tested (λ (f : ExactCrease). IsKey c.args.sheet.now f.seg) c.args.creases.now c.loop-crease.crease-index c.loop-crease-test.false c.loop-crease.invariant.keys

use Rattle.std.proofs.lemmas.Result.{err_from_is_err_and}
use Rattle.std.proofs.Common.{subst}
use Rattle.std.specs.Prelude.{Ok, Err, IfOk, IfErr, All}
use Rattle.sheet.specs.Pattern.{ExactCrease, IsKey}
use Rattle.edits.specs.RabbitEar.{EarOf}
use Rattle.edits.specs.Foldable.{ExactTriangle}
use Rattle.edits.proofs.rabbit_ear.rabbit_ear.Goals as goal

pub returns-in_err-triangle-clause-err : goal.returns-in_err-triangle-clause-err
returns-in_err-triangle-clause-err c = let p = err_from_is_err_and c.from_residual.result c.from_residual.ensures.1 in rw (p.1, p.2) (c.in_err-triangle.ensures.err c.args.mark)

pub returns-clause-ok : goal.returns-clause-ok
returns-clause-ok c = subst (λ (t : ExactTriangle). IfOk c.ear_of.result (λ ear. EarOf t.sheet c.args.mark t.p t.q t.r (Ok ear))) c.in_ok-triangle.ensures.ok c.ear_of.ensures.ok

pub returns-clause-keys : goal.returns-clause-keys
returns-clause-keys c = subst (λ (t : ExactTriangle). IfOk c.ear_of.result (λ ear. All (λ (f : ExactCrease). IsKey t.sheet f.seg) ear)) c.in_ok-triangle.ensures.ok c.ear_of.ensures.keys

pub returns-clause-err : goal.returns-clause-err
returns-clause-err c = subst (λ (t : ExactTriangle). IfErr c.ear_of.result (λ e. EarOf t.sheet c.args.mark t.p t.q t.r (Err e))) c.in_ok-triangle.ensures.ok c.ear_of.ensures.err

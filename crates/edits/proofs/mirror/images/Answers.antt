use Rattle.std.proofs.Common.{◌+◌, List, take, subst, sym}
use Rattle.std.specs.Prelude.{All, Ok}
use Rattle.std.proofs.lemmas.List.Elements.{All-push}
use Rattle.std.proofs.lemmas.Result.{err_from_is_err_and}
use Rattle.sheet.specs.Pattern.{ExactCrease, IsKey}
use Rattle.edits.specs.Rules.{ForEach}
use Rattle.edits.specs.Mirror.{ImageOf}
use Rattle.edits.proofs.Each.{each_next, each_stopped}
use Rattle.edits.proofs.mirror.images.Goals as goal

pub returns-in_err-image-clause-err : goal.returns-in_err-image-clause-err
returns-in_err-image-clause-err c =
    let p = err_from_is_err_and c.from_residual.result c.from_residual.ensures.1 in
    rw p.1 (each_stopped (ImageOf c.args.sheet.now c.args.at.now c.args.dir) c.args.creases.now c.loop-crease.crease-index c.crease-item.result c.loop-crease.images.items p.0 c.loop-crease-test.true c.crease-item.is c.loop-crease.invariant.images (rw p.2 c.in_err-image.ensures.is))

pub loop-crease-preserved : goal.loop-crease-preserved
loop-crease-preserved c =
    let i = c.loop-crease.crease-index in
    let xs = c.args.creases.now in
    let Step = ImageOf c.args.sheet.now c.args.at.now c.args.dir in record {
      images = subst (λ (zs : List ExactCrease). ForEach Step (take (i + 1) xs) (Ok zs)) (sym c.in_ok-push.ensures.items)
          (each_next Step xs i c.crease-item.result c.loop-crease.images.items c.in_ok-image.image c.loop-crease-test.true c.crease-item.is c.loop-crease.invariant.images c.in_ok-image.ensures.is);
      keys = subst (λ (zs : List ExactCrease). All (λ (f : ExactCrease). IsKey c.args.sheet.now f.seg) zs) (sym c.in_ok-push.ensures.items) (All-push (λ (f : ExactCrease). IsKey c.args.sheet.now f.seg) c.loop-crease.images.items c.in_ok-image.image c.loop-crease.invariant.keys c.in_ok-image.ensures.key);
    }

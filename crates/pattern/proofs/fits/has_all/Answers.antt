use Rattle.std.specs.Prelude.{All, Contains}
use Rattle.sheet.specs.Pattern.{ExactCrease}
use Rattle.pattern.proofs.callers.Told.{all_next, all_tested, one_fails, refuted, answers_no, answers_yes}
use Rattle.pattern.proofs.fits.has_all.Goals as goal

pub loop-crease-preserved : goal.loop-crease-preserved
loop-crease-preserved c = all_next (λ (f : ExactCrease). Contains c.args.pattern.now.creases f) c.args.creases.now c.loop-crease.crease-index c.crease-item.result c.loop-crease-test.true c.crease-item.is c.loop-crease.invariant (c.has.ensures.0 c.if-not-has.false)

pub returns-then-not-has : goal.returns-then-not-has
returns-then-not-has c = answers_no (All (λ (f : ExactCrease). Contains c.args.pattern.now.creases f) c.args.creases.now)
    (one_fails (λ (f : ExactCrease). Contains c.args.pattern.now.creases f) c.args.creases.now c.loop-crease.crease-index c.crease-item.result c.loop-crease-test.true c.crease-item.is (refuted c.has.result c.if-not-has.true c.has.ensures))

pub returns : goal.returns
returns c = answers_yes (All (λ (f : ExactCrease). Contains c.args.pattern.now.creases f) c.args.creases.now) (all_tested (λ (f : ExactCrease). Contains c.args.pattern.now.creases f) c.args.creases.now c.loop-crease.crease-index c.loop-crease-test.false c.loop-crease.invariant)

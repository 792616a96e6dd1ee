use Rattle.std.specs.Prelude.{All}
use Rattle.pattern.specs.Fitting.{IsFreeBut}
use Rattle.pattern.proofs.callers.Told.{all_next, all_tested, one_fails, refuted, answers_no, answers_yes}
use Rattle.pattern.proofs.fits.are_free.Goals as goal

pub loop-crease-preserved : goal.loop-crease-preserved
loop-crease-preserved c = all_next (IsFreeBut c.args.pattern.now.creases c.args.removed.now) c.args.creases.now c.loop-crease.crease-index c.crease-item.result c.loop-crease-test.true c.crease-item.is c.loop-crease.invariant (c.is_free.ensures.0 c.if-not-is_free.false)

pub returns-then-not-is_free : goal.returns-then-not-is_free
returns-then-not-is_free c = answers_no (All (IsFreeBut c.args.pattern.now.creases c.args.removed.now) c.args.creases.now)
    (one_fails (IsFreeBut c.args.pattern.now.creases c.args.removed.now) c.args.creases.now c.loop-crease.crease-index c.crease-item.result c.loop-crease-test.true c.crease-item.is
    (refuted c.is_free.result c.if-not-is_free.true c.is_free.ensures))

pub returns : goal.returns
returns c = answers_yes (All (IsFreeBut c.args.pattern.now.creases c.args.removed.now) c.args.creases.now) (all_tested (IsFreeBut c.args.pattern.now.creases c.args.removed.now) c.args.creases.now c.loop-crease.crease-index c.loop-crease-test.false c.loop-crease.invariant)

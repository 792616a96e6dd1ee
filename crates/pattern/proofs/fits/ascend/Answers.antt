use Rattle.std.proofs.Common.{sym}
use Rattle.exact.specs.Plane.{SegmentBefore}
use Rattle.sheet.specs.Pattern.{ExactCrease}
use Rattle.creases.specs.Creases.{Ascends}
use Rattle.pattern.proofs.Pairs.{ascends_short, ascend_next, ascend_fails, pairs_tested}
use Rattle.pattern.proofs.Parts.{before_moved}
use Rattle.pattern.proofs.callers.Told.{answers_no, answers_yes, refuted}
use Rattle.pattern.proofs.fits.ascend.Goals as goal

pub loop-i-init : goal.loop-i-init
loop-i-init c = ascends_short c.args.creases.now

pub loop-i-preserved : goal.loop-i-preserved
loop-i-preserved c = ascend_next c.args.creases.now c.loop-i.i c.index-creases-i.result c.index-creases-i-in-loop-i.result c.loop-i.auto.i c.loop-i-test.true c.index-creases-i.is c.index-creases-i-in-loop-i.is c.loop-i.invariant
    (before_moved _ c.index-creases-i.result _ c.index-creases-i-in-loop-i.result c.last.view_is c.next.view_is (c.comes_before.ensures.0 c.if-not-comes_before.false))

pub returns-then-not-comes_before : goal.returns-then-not-comes_before
returns-then-not-comes_before c = answers_no (Ascends c.args.creases.now)
    (ascend_fails c.args.creases.now c.loop-i.i c.index-creases-i.result c.index-creases-i-in-loop-i.result c.loop-i.auto.i c.loop-i-test.true c.index-creases-i.is c.index-creases-i-in-loop-i.is
    (λ b. refuted c.comes_before.result c.if-not-comes_before.true c.comes_before.ensures (before_moved c.index-creases-i.result _ c.index-creases-i-in-loop-i.result _ (sym c.last.view_is) (sym c.next.view_is) b)))

pub returns : goal.returns
returns c = answers_yes (Ascends c.args.creases.now) (pairs_tested (λ (f g : ExactCrease). SegmentBefore f.seg g.seg) c.args.creases.now c.loop-i.i c.loop-i-test.false c.loop-i.invariant)

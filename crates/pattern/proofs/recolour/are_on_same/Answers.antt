use Rattle.std.proofs.Common.{◌≡◌, ◌<◌, ◌≤◌, length, sym, subst, arith}
use Rattle.sheet.specs.Pattern.{ExactCrease}
use Rattle.pattern.specs.Fitting.{AreOnSame}
use Rattle.pattern.proofs.Recolouring.{on_same_none, on_same_next, on_same_fails, on_same_all}
use Rattle.pattern.proofs.callers.Told.{refuted, shown, answers_no, answers_yes}
use Rattle.pattern.proofs.recolour.are_on_same.Goals as goal

-- by the views of both
moved : (f g x y : ExactCrease) → f ≡ g → x ≡ y → f.seg ≡ x.seg → g.seg ≡ y.seg
moved f g x y e h b = subst (λ (z : ExactCrease). g.seg ≡ z.seg) h (subst (λ (z : ExactCrease). z.seg ≡ x.seg) e b)

pub loop-i-init : goal.loop-i-init
loop-i-init c = on_same_none c.args.gone.now c.args.come.now

pub loop-i-preserved : goal.loop-i-preserved
loop-i-preserved c =
    let gone = c.args.gone.now in
    let come = c.args.come.now in
    let x = c.index-gone-i.result in
    let y = c.index-come-i.result in
    let m : c.loop-i.i < length come = omega (arith, c.loop-i-test.true, c.if-gone-come.false) in
    on_same_next gone come c.loop-i.i x y c.loop-i-test.true m c.index-gone-i.is c.index-come-i.is c.loop-i.invariant
    (moved _ x _ y c.first.view_is c.second.view_is (shown c.is_same_seg.result c.if-not-is_same_seg.false c.is_same_seg.ensures))

pub returns-then-not-is_same_seg : goal.returns-then-not-is_same_seg
returns-then-not-is_same_seg c =
    let gone = c.args.gone.now in
    let come = c.args.come.now in
    let x = c.index-gone-i.result in
    let y = c.index-come-i.result in
    let m : c.loop-i.i < length come = omega (arith, c.loop-i-test.true, c.if-gone-come.false) in
    answers_no (AreOnSame gone come) (on_same_fails gone come c.loop-i.i x y c.loop-i-test.true m c.index-gone-i.is c.index-come-i.is
    (λ e. refuted c.is_same_seg.result c.if-not-is_same_seg.true c.is_same_seg.ensures (moved x _ y _ (sym c.first.view_is) (sym c.second.view_is) e)))

pub returns : goal.returns
returns c =
    let m : length c.args.come.now ≤ c.loop-i.i = omega (arith, c.loop-i-test.false, c.if-gone-come.false) in
    answers_yes (AreOnSame c.args.gone.now c.args.come.now) (on_same_all c.args.gone.now c.args.come.now c.loop-i.i c.loop-i-test.false m c.loop-i.invariant)

use Rattle.std.proofs.Common.{sym, subst}
use Rattle.std.specs.Prelude.{All}
use Rattle.exact.specs.Plane.{ExactPoint, ExactSegment, Before, SegmentBefore, Overlap}
use Rattle.sheet.specs.Pattern.{ExactCrease}
use Rattle.pattern.proofs.Beside.{rest_apart, begins_before}
use Rattle.pattern.proofs.Parts.{seg_of}
use Rattle.pattern.proofs.callers.Told.{all_next, all_tested, one_fails, refuted, shown, answers_no, answers_yes}
use Rattle.pattern.proofs.apart.is_apart_from.Goals as goal

abbrev IsApart : ExactSegment → ExactCrease → Type 0
IsApart s f = ¬ Overlap s f.seg

pub returns-then-not-is_before : goal.returns-then-not-is_before
returns-then-not-is_before c =
    let s = c.args.seg.now in
    let x = c.crease-item.result in
    let same = seg_of _ x c.crease.view_is in
    answers_yes (All (IsApart s) c.args.later.now) (rest_apart s c.args.later.now c.loop-crease.crease-index x c.requires.ascend c.loop-crease-test.true c.crease-item.is c.loop-crease.invariant
    (λ b. refuted c.is_before.result c.if-not-is_before.true c.is_before.ensures
    (subst (λ (p : ExactPoint). Before p c.q-end.result) (sym c.p.ensures.value) (subst (λ (p : ExactPoint). Before c.crease.inside.seg.p p) (sym c.q-end.ensures.value) (subst (λ (t : ExactSegment). Before t.p s.q) (sym same) b)))))

pub overlaps-requires-clause-begins : goal.overlaps-requires-clause-begins
overlaps-requires-clause-begins c =
    let s = c.args.seg.now in
    let x = c.crease-item.result in
    let after : SegmentBefore s x.seg = subst (λ (f : ExactCrease). SegmentBefore s f.seg) (sym c.crease-item.is) (c.requires.after c.loop-crease.crease-index x c.loop-crease-test.true) in
    begins_before s c.crease.inside.seg c.p.ensures.segment (subst (SegmentBefore s) (sym (seg_of _ x c.crease.view_is)) after)

pub returns-then-overlaps : goal.returns-then-overlaps
returns-then-overlaps c =
    let s = c.args.seg.now in
    let x = c.crease-item.result in
    answers_no (All (IsApart s) c.args.later.now) (one_fails (IsApart s) c.args.later.now c.loop-crease.crease-index x c.loop-crease-test.true c.crease-item.is
    (λ n. n (subst (Overlap s) (seg_of _ x c.crease.view_is) (shown c.overlaps.result c.if-overlaps.true c.overlaps.ensures))))

pub loop-crease-preserved : goal.loop-crease-preserved
loop-crease-preserved c =
    let s = c.args.seg.now in
    let x = c.crease-item.result in
    all_next (IsApart s) c.args.later.now c.loop-crease.crease-index x c.loop-crease-test.true c.crease-item.is c.loop-crease.invariant
    (λ v. refuted c.overlaps.result c.if-overlaps.false c.overlaps.ensures (subst (Overlap s) (sym (seg_of _ x c.crease.view_is)) v))

pub returns : goal.returns
returns c = answers_yes (All (IsApart c.args.seg.now) c.args.later.now) (all_tested (IsApart c.args.seg.now) c.args.later.now c.loop-crease.crease-index c.loop-crease-test.false c.loop-crease.invariant)

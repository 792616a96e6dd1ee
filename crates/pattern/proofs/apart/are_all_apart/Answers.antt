use Rattle.std.proofs.Common.{◌≡◌, ◌+◌, List, drop, sym, subst}
use Rattle.std.specs.Prelude.{All}
use Rattle.exact.specs.Plane.{ExactSegment, SegmentBefore, Overlap}
use Rattle.sheet.specs.Pattern.{ExactCrease}
use Rattle.std.proofs.lemmas.List.{take_rest}
use Rattle.pattern.specs.Fitting.{AreApart}
use Rattle.pattern.proofs.Beside.{rest_after, beside_next, beside_fails, beside_all}
use Rattle.pattern.proofs.Parts.{seg_of}
use Rattle.pattern.proofs.callers.Told.{refuted, shown, answers_no, answers_yes}
use Rattle.pattern.proofs.apart.are_all_apart.Goals as goal

-- the segment of the element, and the rest behind it
at_rest : (P : ExactSegment → List ExactCrease → Type 0) (s t : ExactSegment) (rest behind : List ExactCrease) → s ≡ t → rest ≡ behind → P s rest → P t behind
at_rest P s t rest behind e f h = subst (λ (x : ExactSegment). P x behind) e (subst (P s) f h)

abbrev Apart : ExactSegment → List ExactCrease → Type 0
Apart s xs = All (λ f. ¬ Overlap s f.seg) xs

abbrev After : ExactSegment → List ExactCrease → Type 0
After s xs = All (λ f. SegmentBefore s f.seg) xs

pub is_apart_from-requires-clause-after : goal.is_apart_from-requires-clause-after
is_apart_from-requires-clause-after c =
    let xs = c.args.creases.now in
    let x = c.index-creases-i.result in
    at_rest After x.seg c.crease.inside.seg (drop (c.loop-i.i + 1) xs) _ (sym (seg_of _ x c.crease.view_is)) (sym (take_rest xs (c.loop-i.i + 1))) (rest_after xs c.loop-i.i x c.loop-i-test.true c.index-creases-i.is c.requires)

pub returns-then-not-is_apart_from : goal.returns-then-not-is_apart_from
returns-then-not-is_apart_from c =
    let xs = c.args.creases.now in
    let x = c.index-creases-i.result in
    answers_no (AreApart xs) (beside_fails xs c.loop-i.i x c.loop-i-test.true c.index-creases-i.is
    (λ a. refuted c.is_apart_from.result c.if-not-is_apart_from.true c.is_apart_from.ensures (at_rest Apart x.seg c.crease.inside.seg (drop (c.loop-i.i + 1) xs) _ (sym (seg_of _ x c.crease.view_is)) (sym (take_rest xs (c.loop-i.i + 1))) a)))

pub loop-i-preserved : goal.loop-i-preserved
loop-i-preserved c =
    let xs = c.args.creases.now in
    let x = c.index-creases-i.result in
    beside_next xs c.loop-i.i x c.loop-i-test.true c.index-creases-i.is c.loop-i.invariant
    (at_rest Apart c.crease.inside.seg x.seg _ (drop (c.loop-i.i + 1) xs) (seg_of _ x c.crease.view_is) (take_rest xs (c.loop-i.i + 1)) (shown c.is_apart_from.result c.if-not-is_apart_from.false c.is_apart_from.ensures))

pub returns : goal.returns
returns c = answers_yes (AreApart c.args.creases.now) (beside_all c.args.creases.now c.loop-i.i c.loop-i-test.false c.loop-i.invariant)

use Rattle.std.proofs.Common.{ap}
use Rattle.std.specs.Ordering.{is_gt}
use Rattle.creases.proofs.IndexChanges.{held_at}
use Rattle.creases.proofs.PlaceKeys.{place_total}
use Rattle.creases.proofs.Ranges.{between_none, between_last, between_clear}
use Rattle.creases.proofs.Reaching.{begins_before}
use Rattle.creases.proofs.index.first_place.Goals as goal

pub is_reached-requires-clause-place : goal.is_reached-requires-clause-place
is_reached-requires-clause-place c =
    let e = (c.range.ensures.in_range tt).3 (c.in-Some.last.now, c.in-Some.crease.now) c.next_back.new.self c.in-Some.ensures.steps in
    c.requires.index.placed c.in-Some.last.now c.in-Some.crease.now e.1

pub is_reached-requires-clause-held : goal.is_reached-requires-clause-held
is_reached-requires-clause-held c =
    let e = (c.range.ensures.in_range tt).3 (c.in-Some.last.now, c.in-Some.crease.now) c.next_back.new.self c.in-Some.ensures.steps in
    held_at c.args.by_place.now c.in-Some.last.now c.in-Some.crease.now c.requires.index e.1

pub is_reached-requires-clause-before : goal.is_reached-requires-clause-before
is_reached-requires-clause-before c =
    let e = (c.range.ensures.in_range tt).3 (c.in-Some.last.now, c.in-Some.crease.now) c.next_back.new.self c.in-Some.ensures.steps in
    place_total.trans c.in-Some.last.now c.args.place.now c.args.end.now e.0.1 (begins_before c.args.seg.now c.args.place.now c.args.end.now c.requires.held c.requires.place c.requires.end)

pub returns-then-is_reached-clause-overlap : goal.returns-then-is_reached-clause-overlap
returns-then-is_reached-clause-overlap c =
    let r = c.range.ensures.in_range tt in
    let e = r.3 (c.in-Some.last.now, c.in-Some.crease.now) c.next_back.new.self c.in-Some.ensures.steps in
    between_last c.args.by_place.now c.args.seg.now c.requires.index c.requires.held c.args.end.now c.requires.end c.args.place.now c.requires.place
    c.in-Some.last.now c.in-Some.crease.now e.1 e.0.1 (λ k l i. r.4 (c.in-Some.last.now, c.in-Some.crease.now) c.next_back.new.self c.in-Some.ensures.steps k (tt, l) i)
    (c.is_reached.ensures.0 c.if-is_reached.true)

pub returns-then-is_reached-clause-forward : goal.returns-then-is_reached-clause-forward
returns-then-is_reached-clause-forward c =
    let e = (c.range.ensures.in_range tt).3 (c.in-Some.last.now, c.in-Some.crease.now) c.next_back.new.self c.in-Some.ensures.steps in
    ap is_gt (place_total.trans c.in-Some.last.now c.args.place.now c.args.end.now e.0.1 (begins_before c.args.seg.now c.args.place.now c.args.end.now c.requires.held c.requires.place c.requires.end))

pub returns-else-is_reached-clause-overlap : goal.returns-else-is_reached-clause-overlap
returns-else-is_reached-clause-overlap c =
    let r = c.range.ensures.in_range tt in
    let e = r.3 (c.in-Some.last.now, c.in-Some.crease.now) c.next_back.new.self c.in-Some.ensures.steps in
    between_clear c.args.by_place.now c.args.seg.now c.requires.index c.requires.held c.args.end.now c.requires.end c.args.place.now c.requires.place
    c.in-Some.last.now c.in-Some.crease.now e.1 e.0.1 (λ k l i. r.4 (c.in-Some.last.now, c.in-Some.crease.now) c.next_back.new.self c.in-Some.ensures.steps k (tt, l) i)
    (λ v. (let t = c.is_reached.ensures.1 v in let f = c.if-is_reached.false in cc))

pub returns-else-is_reached-clause-forward : goal.returns-else-is_reached-clause-forward
returns-else-is_reached-clause-forward c = ap is_gt (begins_before c.args.seg.now c.args.place.now c.args.end.now c.requires.held c.requires.place c.requires.end)

pub returns-in-None-clause-overlap : goal.returns-in-None-clause-overlap
returns-in-None-clause-overlap c =
    between_none c.args.by_place.now c.args.seg.now c.requires.index c.requires.held c.args.end.now c.requires.end c.args.place.now c.requires.place
    (λ k l. (c.range.ensures.in_range tt).5 c.in-None.ensures.steps.0 k (tt, l))

pub returns-in-None-clause-forward : goal.returns-in-None-clause-forward
returns-in-None-clause-forward c = ap is_gt (begins_before c.args.seg.now c.args.place.now c.args.end.now c.requires.held c.requires.place c.requires.end)

use Rattle.std.proofs.Common.{subst, refl, List}
use Rattle.std.specs.Prelude.{Contains}
use Rattle.std.proofs.lemmas.List.Elements.{All-contains}
use Rattle.exact.specs.Plane.{Overlap}
use Rattle.sheet.specs.Pattern.{ExactCrease}
use Rattle.creases.specs.Creases.{IsFree}
use Rattle.creases.proofs.IndexChanges.{held_at, value_at}
use Rattle.creases.proofs.Ranges.{none_free, last_free}
use Rattle.creases.proofs.callers.Told.{answers_other}
use Rattle.creases.proofs.index.LineIndex.is_free.Goals as goal

pub is_reached-requires-clause-place : goal.is_reached-requires-clause-place
is_reached-requires-clause-place c =
    let e = (c.range.ensures.in_range tt).3 (c.in-Some.last.now, c.in-Some.crease.now) c.next_back.new.self c.in-Some.ensures.steps in
    c.self.invariant.placed c.in-Some.last.now c.in-Some.crease.now e.1

pub is_reached-requires-clause-held : goal.is_reached-requires-clause-held
is_reached-requires-clause-held c =
    let e = (c.range.ensures.in_range tt).3 (c.in-Some.last.now, c.in-Some.crease.now) c.next_back.new.self c.in-Some.ensures.steps in
    held_at c.self.inside.by_place c.in-Some.last.now c.in-Some.crease.now c.self.invariant e.1

pub is_reached-requires-clause-before : goal.is_reached-requires-clause-before
is_reached-requires-clause-before c =
    let e = (c.range.ensures.in_range tt).3 (c.in-Some.last.now, c.in-Some.crease.now) c.next_back.new.self c.in-Some.ensures.steps in
    e.0.1

pub returns-in-Some : goal.returns-in-Some
returns-in-Some c =
    let r = c.range.ensures.in_range tt in
    let x : ExactCrease = c.in-Some.crease.now in
    let s = c.args.seg.now in
    let e = r.3 (c.in-Some.last.now, c.in-Some.crease.now) c.next_back.new.self c.in-Some.ensures.steps in
    answers_other c.is_reached.result (Overlap x.seg s) (IsFree c.args.self.now s) c.is_reached.ensures
    (λ n. subst (λ (xs : List ExactCrease). IsFree xs s) c.self.view_is
    (last_free c.self.inside.by_place s c.self.invariant c.requires.held c.end_of-end.result c.end_of-end.ensures c.in-Some.last.now x e.1 e.0.1
    (λ k l i. r.4 (c.in-Some.last.now, c.in-Some.crease.now) c.next_back.new.self c.in-Some.ensures.steps k (tt, l) i) n))
    (λ free. All-contains (λ (f : ExactCrease). ¬ Overlap f.seg s) c.args.self.now x free
    (subst (λ (xs : List ExactCrease). Contains xs x) c.self.view_is (value_at c.self.inside.by_place c.in-Some.last.now x c.self.invariant.ordered e.1)))

pub returns-in-None : goal.returns-in-None
returns-in-None c = (
  λ _. subst (λ (xs : List ExactCrease). IsFree xs c.args.seg.now) c.self.view_is
      (none_free c.self.inside.by_place c.args.seg.now c.self.invariant c.requires.held c.end_of-end.result c.end_of-end.ensures (λ k l. (c.range.ensures.in_range tt).5 c.in-None.ensures.steps.0 k (tt, l))),
  λ _. refl,
)

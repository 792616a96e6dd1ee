use Rattle.std.proofs.Common.{◌≡◌, List, [], ◌∷◌, ◌++◌, sym, subst, ◌∙◌, ap}
use Rattle.std.proofs.lemmas.List.{append-nil}
use Rattle.exact.specs.Plane.{ExactSegment}
use Rattle.sheet.specs.Pattern.{ExactCrease}
use Rattle.geometry.specs.Rays.{RunsAlong}
use Rattle.plane.proofs.callers.Told.{fails}
use Rattle.pattern.proofs.callers.Fronts.{moved}
use Rattle.pattern.proofs.callers.Told.{answers_no, answers_yes}
use Rattle.edits.specs.SidesAndCreases.{IsCrease}
use Rattle.edits.proofs.bisections.AnyAlong.{None, no_crease, none_pushed, some_crease}
use Rattle.edits.proofs.bisect.has_crease.Goals as goal

pub loop-crease-init : goal.loop-crease-init
loop-crease-init c = ([], c.into_iter-crease-iterator.ensures.into_iter_gives ∙ c.creases-crease-items.ensures.rest, no_crease c.args.at.now c.args.dir)

pub loop-crease-preserved : goal.loop-crease-preserved
loop-crease-preserved c =
    let i = c.loop-crease.invariant in
    let f : ExactCrease = c.in-Some.crease in (
      i.0 ++ f ∷ [],
      moved c.args.pattern.now.creases i.0 c.loop-crease.crease-iterator c.next.new.self f i.1 c.in-Some.ensures.steps,
      none_pushed c.args.at.now c.args.dir i.0 f i.2 (λ runs. fails c.runs_along.ensures c.if-runs_along.false (subst (λ (g : ExactCrease). RunsAlong c.args.at.now c.args.dir g.seg) (sym c.crease.view_is) runs)),
    )

pub returns-then-runs_along : goal.returns-then-runs_along
returns-then-runs_along c =
    let i = c.loop-crease.invariant in
    answers_yes ((s : ExactSegment) × IsCrease c.args.pattern.now.creases s × RunsAlong c.args.at.now c.args.dir s)
    (some_crease c.args.at.now c.args.dir c.args.pattern.now.creases i.0 c.loop-crease.crease-iterator c.next.new.self c.in-Some.crease i.1 c.in-Some.ensures.steps
    (subst (λ (g : ExactCrease). RunsAlong c.args.at.now c.args.dir g.seg) c.crease.view_is (c.runs_along.ensures.0 c.if-runs_along.true)))

pub returns : goal.returns
returns c =
    let i = c.loop-crease.invariant in
    let all : i.0 ≡ c.args.pattern.now.creases = sym (append-nil i.0) ∙ ap (λ (xs : List ExactCrease). i.0 ++ xs) (sym c.in-None.ensures.steps.0) ∙ i.1 in
    answers_no ((s : ExactSegment) × IsCrease c.args.pattern.now.creases s × RunsAlong c.args.at.now c.args.dir s)
    (λ h. subst (λ (xs : List ExactCrease). None (IsCrease xs) c.args.at.now c.args.dir) all i.2 h.0 h.1 h.2)

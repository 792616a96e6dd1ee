use Rattle.std.proofs.Common.{◌≡◌, ℕ, ◌<◌, List, [], ◌∷◌, ◌++◌, sym, subst, ◌∙◌, ap}
use Rattle.std.proofs.lemmas.List.{append-nil}
use Rattle.std.specs.Prelude.{Contains}
use Rattle.sheet.specs.Sheet.{ExactSheet, sides}
use Rattle.sheet.specs.Pattern.{ExactCrease}
use Rattle.pattern.proofs.callers.Fronts.{moved}
use Rattle.edits.specs.Drafts.{with_creases}
use Rattle.edits.specs.SidesAndCreases.{IsSideOrCrease}
use Rattle.edits.specs.Sights.{Sees}
use Rattle.edits.proofs.extensions.OneSegment.{IsIt}
use Rattle.edits.proofs.extensions.AllMet.{see_sides, see_crease}
use Rattle.edits.proofs.extend.all_met.Goals as goal

pub loop-crease-init : goal.loop-crease-init
loop-crease-init c = ([], c.into_iter-crease-iterator.ensures.into_iter_gives ∙ c.creases-crease-items.ensures.rest, see_sides c.args.pattern.now c.args.at.now c.args.dir c.sides_met-seen.result (subst (λ (s : ExactSheet). Sees c.args.at.now c.args.dir (Contains (sides s)) c.sides_met-seen.result) c.sheet.ensures.sheet c.sides_met-seen.ensures))

pub loop-crease-preserved : goal.loop-crease-preserved
loop-crease-preserved c =
    let i = c.loop-crease.invariant in
    let f : ExactCrease = c.in-Some.crease in (
      i.0 ++ f ∷ [],
      moved c.args.pattern.now.creases i.0 c.loop-crease.crease-iterator c.next.new.self f i.1 c.in-Some.ensures.steps,
      see_crease c.args.pattern.now c.args.at.now c.args.dir i.0 f c.loop-crease.seen c.met.result c.both-seen.result (subst (λ (k : ℕ). k < 16) c.number-number.ensures.value c.number-number.ensures.small) i.2 (subst (λ (g : ExactCrease). Sees c.args.at.now c.args.dir (IsIt g.seg) c.met.result) c.crease.view_is c.met.ensures) c.both-seen.ensures,
    )

pub returns-clause-sees : goal.returns-clause-sees
returns-clause-sees c =
    let i = c.loop-crease.invariant in
    let all : i.0 ≡ c.args.pattern.now.creases = sym (append-nil i.0) ∙ ap (λ (xs : List ExactCrease). i.0 ++ xs) (sym c.in-None.ensures.steps.0) ∙ i.1 in
    subst (λ (xs : List ExactCrease). Sees c.args.at.now c.args.dir (IsSideOrCrease (with_creases c.args.pattern.now xs)) c.loop-crease.seen) all i.2

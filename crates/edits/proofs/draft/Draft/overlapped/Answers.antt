use Rattle.std.proofs.Common.{◌≡◌, List, ap, sym, subst}
use Rattle.std.specs.Prelude.{Contains}
use Rattle.exact.specs.Plane.{Overlap}
use Rattle.sheet.specs.Pattern.{ExactCrease}
use Rattle.creases.specs.Standing.{AreStanding}
use Rattle.creases.proofs.callers.Standing.{along_once}
use Rattle.edits.specs.Beside.{standing}
use Rattle.edits.specs.Drafts.{ExactDraft}
use Rattle.edits.proofs.drafts.Beside.{stand_standing}
use Rattle.edits.proofs.drafts.BesideSteps.{come_gathered}
use Rattle.edits.proofs.drafts.Gathered.{AreGathered, gathered_more, all_gathered}
use Rattle.edits.proofs.draft.Draft.overlapped.Goals as goal

pub left-requires : goal.left-requires
left-requires c = along_once c.overlapping.result c.overlapping.ensures.along

pub loop-crease-init : goal.loop-crease-init
loop-crease-init c =
    let Found : ExactCrease → Type 0 = λ f. Contains c.args.self.now.creases f × Overlap f.seg c.args.seg.now in
    let Wanted : ExactCrease → Type 0 = λ f. Unit {0} in
    let at : standing c.self.inside.pattern.now c.self.inside.gone c.self.inside.come ≡ c.args.self.now.creases = ap (λ (d : ExactDraft). d.creases) c.self.view_is in
    let ys = c.overlapping-crease-items.result in
    subst (λ (xs : List ExactCrease). AreGathered Found Wanted c.in_ok-list.list.items xs) (sym {A = List ExactCrease} c.into_iter-crease-iterator.ensures.into_iter_gives)
    (subst (λ (xs : List ExactCrease). AreGathered (λ f. Contains xs f × Overlap f.seg c.args.seg.now) Wanted c.in_ok-list.list.items ys) at
    (come_gathered c.self.inside.pattern.now c.self.inside.gone c.self.inside.come c.args.seg.now c.overlapping.result c.in_ok-list.list.items ys c.self.invariant c.overlapping.ensures.members c.in_ok-list.ensures.members c.in_ok-list.ensures.once
    c.overlapping-crease-items.ensures.members c.overlapping-crease-items.ensures.along))

pub loop-crease-preserved : goal.loop-crease-preserved
loop-crease-preserved c =
    let Found : ExactCrease → Type 0 = λ f. Contains c.args.self.now.creases f × Overlap f.seg c.args.seg.now in
    let Wanted : ExactCrease → Type 0 = λ f. Unit {0} in
    subst (λ (xs : List ExactCrease). AreGathered Found Wanted xs c.next.new.self) (sym {A = List ExactCrease} c.in_ok-push.ensures.items)
    (gathered_more Found Wanted c.loop-crease.list.items c.loop-crease.crease-iterator c.next.new.self c.in-Some.crease c.loop-crease.invariant c.in-Some.ensures.steps tt)

pub returns-clause-members : goal.returns-clause-members
returns-clause-members c =
    let Found : ExactCrease → Type 0 = λ f. Contains c.args.self.now.creases f × Overlap f.seg c.args.seg.now in
    let Wanted : ExactCrease → Type 0 = λ f. Unit {0} in
    all_gathered Found Wanted c.loop-crease.list.items c.loop-crease.crease-iterator c.loop-crease.invariant c.in-None.ensures.steps.0

pub returns-in_err-list-clause-standing : goal.returns-in_err-list-clause-standing
returns-in_err-list-clause-standing c = subst AreStanding (ap (λ (d : ExactDraft). d.creases) c.self.view_is) (stand_standing c.self.inside.pattern.now c.self.inside.gone c.self.inside.come c.self.invariant)

pub returns-in_err-push-clause-standing : goal.returns-in_err-push-clause-standing
returns-in_err-push-clause-standing c = subst AreStanding (ap (λ (d : ExactDraft). d.creases) c.self.view_is) (stand_standing c.self.inside.pattern.now c.self.inside.gone c.self.inside.come c.self.invariant)

pub returns-clause-standing : goal.returns-clause-standing
returns-clause-standing c = subst AreStanding (ap (λ (d : ExactDraft). d.creases) c.self.view_is) (stand_standing c.self.inside.pattern.now c.self.inside.gone c.self.inside.come c.self.invariant)

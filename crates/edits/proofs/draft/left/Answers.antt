use Rattle.std.proofs.Common.{List, [], sym, subst}
use Rattle.std.specs.Prelude.{Contains}
use Rattle.sheet.specs.Pattern.{ExactCrease}
use Rattle.edits.proofs.drafts.Gathered.{AreGathered, none_gathered, gathered_more, gathered_passed, all_gathered}
use Rattle.edits.proofs.draft.left.Goals as goal

pub loop-crease-init : goal.loop-crease-init
loop-crease-init c =
    let Found : ExactCrease → Type 0 = λ f. Contains c.args.creases f × (¬ Contains c.args.gone.now f) in
    let Wanted : ExactCrease → Type 0 = λ f. ¬ Contains c.args.gone.now f in
    subst (λ (xs : List ExactCrease). AreGathered Found Wanted xs c.into_iter-crease-iterator.result) (sym {A = List ExactCrease} c.new-list.ensures.items)
    (subst (AreGathered Found Wanted []) (sym {A = List ExactCrease} c.into_iter-crease-iterator.ensures.into_iter_gives) (none_gathered Found Wanted c.args.creases (λ f. (λ h. h, λ h. h)) c.requires))

pub loop-crease-preserved-in-Continue-1 : goal.loop-crease-preserved-in-Continue-1
loop-crease-preserved-in-Continue-1 c =
    let Found : ExactCrease → Type 0 = λ f. Contains c.args.creases f × (¬ Contains c.args.gone.now f) in
    let Wanted : ExactCrease → Type 0 = λ f. ¬ Contains c.args.gone.now f in
    subst (λ (xs : List ExactCrease). AreGathered Found Wanted xs c.next.new.self) (sym {A = List ExactCrease} c.in_ok-push.ensures.items)
    (gathered_more Found Wanted c.loop-crease.list.items c.loop-crease.crease-iterator c.next.new.self c.in-Some.crease c.loop-crease.invariant c.in-Some.ensures.steps (λ h. (let k = c.has.ensures.here.1 h in let n = c.if-not-has.true in cc)))

pub loop-crease-preserved : goal.loop-crease-preserved
loop-crease-preserved c =
    let Found : ExactCrease → Type 0 = λ f. Contains c.args.creases f × (¬ Contains c.args.gone.now f) in
    let Wanted : ExactCrease → Type 0 = λ f. ¬ Contains c.args.gone.now f in
    let there : Contains c.args.gone.now c.in-Some.crease = c.has.ensures.here.0 (let n = c.if-not-has.false in cc) in
    gathered_passed Found Wanted c.loop-crease.list.items c.loop-crease.crease-iterator c.next.new.self c.in-Some.crease c.loop-crease.invariant c.in-Some.ensures.steps (λ n. n there)

pub returns-clause-members : goal.returns-clause-members
returns-clause-members c =
    let Found : ExactCrease → Type 0 = λ f. Contains c.args.creases f × (¬ Contains c.args.gone.now f) in
    let Wanted : ExactCrease → Type 0 = λ f. ¬ Contains c.args.gone.now f in
    all_gathered Found Wanted c.loop-crease.list.items c.loop-crease.crease-iterator c.loop-crease.invariant c.in-None.ensures.steps.0

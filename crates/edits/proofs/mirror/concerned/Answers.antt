use Rattle.std.proofs.Common.{◌≡◌, ◌∙◌, ◌++◌, ◌∷◌, [], List, ap, append-nil, sym, subst}
use Rattle.sheet.specs.Pattern.{ExactCrease}
use Rattle.pattern.proofs.callers.Fronts.{taken_pattern, moved}
use Rattle.pattern.proofs.callers.Told.{refuted, shown}
use Rattle.edits.specs.Mirror.{IsConcerned}
use Rattle.edits.proofs.mirrors.KeptCreases.{AreKept, kept_more, kept_passed, kept_creases}
use Rattle.edits.proofs.mirror.concerned.Goals as goal

pub loop-crease-preserved-in-Continue-1 : goal.loop-crease-preserved-in-Continue-1
loop-crease-preserved-in-Continue-1 c =
    let i = c.loop-crease.invariant in
    let f : ExactCrease = c.in-Some.crease in
    let P : ExactCrease → Type 0 = λ g. IsConcerned c.args.at.now c.args.dir g.seg in
    let before = taken_pattern c.args.pattern.now i.0 c.loop-crease.crease-iterator c.next.new.self f c.creases-crease-items.ensures.pattern i.1 c.in-Some.ensures.steps in (
      i.0 ++ f ∷ [],
      moved c.args.pattern.now.creases i.0 c.loop-crease.crease-iterator c.next.new.self f i.1 c.in-Some.ensures.steps,
      subst (λ (xs : List ExactCrease). AreKept P (i.0 ++ f ∷ []) xs) (sym {A = List ExactCrease} c.in_ok-push.ensures.items)
          (kept_more P i.0 c.loop-crease.concerned.items f before.ordered i.2 (subst P c.crease.view_is (shown c.is_concerned.result c.if-is_concerned.true c.is_concerned.ensures))),
    )

pub loop-crease-preserved : goal.loop-crease-preserved
loop-crease-preserved c =
    let i = c.loop-crease.invariant in
    let f : ExactCrease = c.in-Some.crease in
    let P : ExactCrease → Type 0 = λ g. IsConcerned c.args.at.now c.args.dir g.seg in (
      i.0 ++ f ∷ [],
      moved c.args.pattern.now.creases i.0 c.loop-crease.crease-iterator c.next.new.self f i.1 c.in-Some.ensures.steps,
      kept_passed P i.0 c.loop-crease.concerned.items f i.2 (λ h. refuted c.is_concerned.result c.if-is_concerned.false c.is_concerned.ensures (subst P (sym c.crease.view_is) h)),
    )

pub returns : goal.returns
returns c =
    let i = c.loop-crease.invariant in
    let P : ExactCrease → Type 0 = λ g. IsConcerned c.args.at.now c.args.dir g.seg in
    let all : i.0 ≡ c.args.pattern.now.creases = sym (append-nil i.0) ∙ ap (λ (xs : List ExactCrease). i.0 ++ xs) (sym c.in-None.ensures.steps.0) ∙ i.1 in
    kept_creases P c.args.pattern.now c.loop-crease.concerned.items c.creases-crease-items.ensures.pattern (subst (λ (xs : List ExactCrease). AreKept P xs c.loop-crease.concerned.items) all i.2)

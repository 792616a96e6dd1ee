use Rattle.std.proofs.Common.{◌++◌, ◌∷◌, [], List, sym, subst}
use Rattle.sheet.specs.Pattern.{ExactCrease}
use Rattle.pattern.specs.Deltas.{IsWithout}
use Rattle.pattern.proofs.callers.Fronts.{taken_pattern, moved}
use Rattle.pattern.proofs.callers.Leading.{without_more, without_passed}
use Rattle.pattern.proofs.difference.without.Goals as goal

pub loop-crease-preserved-in-Continue-1 : goal.loop-crease-preserved-in-Continue-1
loop-crease-preserved-in-Continue-1 c =
    let i = c.loop-crease.invariant in
    let f : ExactCrease = c.in-Some.crease in
    let before = taken_pattern c.args.pattern.now i.0 c.loop-crease.crease-iterator c.next.new.self f c.creases-crease-items.ensures.pattern i.1 c.in-Some.ensures.steps in (
      i.0 ++ f ∷ [],
      moved c.args.pattern.now.creases i.0 c.loop-crease.crease-iterator c.next.new.self f i.1 c.in-Some.ensures.steps,
      subst (λ (xs : List ExactCrease). IsWithout (i.0 ++ f ∷ []) c.args.other.now.creases xs) (sym {A = List ExactCrease} c.in_ok-push.ensures.items)
          (without_more i.0 c.args.other.now.creases c.loop-crease.only.items f before.ordered i.2 (λ h. (let k = c.has.ensures.1 h in let n = c.if-not-has.true in cc))),
    )

pub loop-crease-preserved : goal.loop-crease-preserved
loop-crease-preserved c =
    let i = c.loop-crease.invariant in
    let f : ExactCrease = c.in-Some.crease in (
      i.0 ++ f ∷ [],
      moved c.args.pattern.now.creases i.0 c.loop-crease.crease-iterator c.next.new.self f i.1 c.in-Some.ensures.steps,
      without_passed i.0 c.args.other.now.creases c.loop-crease.only.items f i.2 (c.has.ensures.0 (let n = c.if-not-has.false in cc)),
    )

use Rattle.std.proofs.Common.{◌≡◌, ◌≤◌, [], List, length, sym, subst, arith}
use Rattle.sheet.specs.Pattern.{ExactCrease, crease_limit}
use Rattle.sheet.specs.Sheet.{ExactSheet, IsSheet}
use Rattle.creases.specs.Standing.{AreStanding}
use Rattle.pattern.specs.NativeReader.{on}
use Rattle.pattern.specs.Fitting.{CanCome}
use Rattle.pattern.specs.Collecting.{HasJust}
use Rattle.pattern.proofs.callers.Told.{refuted, shown}
use Rattle.pattern.proofs.Stepping.{AreMore}
use Rattle.pattern.proofs.Collecting.{collected, can_come, few_come}
use Rattle.pattern.proofs.pattern.Pattern.with_creases.Goals as goal

pub returns-then-not-branch-clause-none : goal.returns-then-not-branch-clause-none
returns-then-not-branch-clause-none c = λ _ made h. refuted c.in_ok-put_all.field-0 c.if-not-branch.true c.in_ok-put_all.ensures.all
    (subst (λ (xs : List ExactCrease). CanCome c.args.sheet xs c.args.creases.now) (sym c.new-map.ensures) (can_come c.args.sheet c.args.creases.now made h))

pub returns-then-len-gt-CREASE_LIMIT-clause-none : goal.returns-then-len-gt-CREASE_LIMIT-clause-none
returns-then-len-gt-CREASE_LIMIT-clause-none c = λ _ made h.
    let now = c.put_all.new.creases in
    let more : AreMore [] c.args.creases.now now = subst (λ (xs : List ExactCrease). AreMore xs c.args.creases.now now) c.new-map.ensures (c.in_ok-put_all.ensures.more c.if-not-branch.false) in
    let few = few_come c.args.sheet c.args.creases.now now made h more c.len.ensures.standing in
    omega (arith, few, c.len.ensures.count, c.if-len-gt-CREASE_LIMIT.true)

-- what stands in the map is what came
whole : (sheet : ExactSheet) (there come now : List ExactCrease) → there ≡ [] → IsSheet sheet → CanCome sheet there come → AreMore there come now → AreStanding now → length now ≤ crease_limit → HasJust sheet come (on sheet now)
whole sheet there come now e s c m st few = collected sheet come now s (subst (λ (xs : List ExactCrease). CanCome sheet xs come) e c) (subst (λ (xs : List ExactCrease). AreMore xs come now) e m) st few

pub invariant_of-result : goal.invariant_of-result
invariant_of-result c = (whole c.args.sheet c.new-map.result c.args.creases.now c.put_all.new.creases c.new-map.ensures c.w-w.ensures.sheet (shown c.in_ok-put_all.field-0 c.if-not-branch.false c.in_ok-put_all.ensures.all) (c.in_ok-put_all.ensures.more c.if-not-branch.false) c.len.ensures.standing (omega (arith, c.len.ensures.count, c.if-len-gt-CREASE_LIMIT.false))).pattern

pub returns-clause-some : goal.returns-clause-some
returns-clause-some c = whole c.args.sheet c.new-map.result c.args.creases.now c.put_all.new.creases c.new-map.ensures c.w-w.ensures.sheet (shown c.in_ok-put_all.field-0 c.if-not-branch.false c.in_ok-put_all.ensures.all) (c.in_ok-put_all.ensures.more c.if-not-branch.false) c.len.ensures.standing (omega (arith, c.len.ensures.count, c.if-len-gt-CREASE_LIMIT.false))

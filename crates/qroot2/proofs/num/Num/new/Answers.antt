use Rattle.std.proofs.Common.{arith, ap, ◌∙◌}
use Rattle.std.specs.Prelude.{unsigned_abs}
use Rattle.std.specs.Int.{w128}
use Rattle.std.proofs.lemmas.Int.{ints, to_z-of_z}
use Rattle.qroot2.specs.Num.{Reduces, signed}
use Rattle.qroot2.proofs.callers.Made.{made, not_held, reduces_same}
use Rattle.qroot2.proofs.num.Num.new.Goals as goal
use Rattle.qroot2.proofs.num.Num.new.Goals.{then-x-via-then-x, then-x-via-else-x+then-y, then-x-via-else-x+else-y+then-z}

pub returns-then-x-clause-none : goal.returns-then-x-clause-none
returns-then-x-clause-none c = λ rep.
    let ea = to_z-of_z w128 c.args.a c.ranges.a in
    let eb = to_z-of_z w128 c.args.b c.ranges.b in
    let ed = to_z-of_z w128 c.args.d c.ranges.d in
    let red : Reduces (unsigned_abs c.args.a) (unsigned_abs c.args.b) (unsigned_abs c.args.d) c.lowest-x.result.0 c.lowest-x.result.1 c.lowest-x.result.2 =
    reduces_same _ _ _ _ _ _ _ _ _ (c.unsigned_abs.ensures.value ∙ ap unsigned_abs ea) (c.unsigned_abs-2.ensures.value ∙ ap unsigned_abs eb) (c.unsigned_abs-3.ensures.value ∙ ap unsigned_abs ed) c.lowest-x.ensures in
    let held = not_held c.args.a c.args.b (unsigned_abs c.args.d) _ _ _ (omega (arith, ints, c.requires.d.0)) red rep in
    elim c.then-x.branch [
      | then-x-via-then-x w ↦ omega (arith, held.0)
      | then-x-via-else-x+then-y w ↦ omega (arith, held.1)
      | then-x-via-else-x+else-y+then-z w ↦ omega (arith, held.2)
    ]

pub invariant_of-result : goal.invariant_of-result
invariant_of-result c =
    let ea = to_z-of_z w128 c.args.a c.ranges.a in
    let eb = to_z-of_z w128 c.args.b c.ranges.b in
    let ed = to_z-of_z w128 c.args.d c.ranges.d in
    let red : Reduces (unsigned_abs c.args.a) (unsigned_abs c.args.b) (unsigned_abs c.args.d) c.lowest-x.result.0 c.lowest-x.result.1 c.lowest-x.result.2 =
    reduces_same _ _ _ _ _ _ _ _ _ (c.unsigned_abs.ensures.value ∙ ap unsigned_abs ea) (c.unsigned_abs-2.ensures.value ∙ ap unsigned_abs eb) (c.unsigned_abs-3.ensures.value ∙ ap unsigned_abs ed) c.lowest-x.ensures in
    (made c.args.a c.args.b c.with_sign.result c.with_sign-2.result (unsigned_abs c.args.d) _ _ _ (omega (arith, ints, c.requires.d.0)) red c.if-x.false c.if-y.false c.if-z.false
    (c.with_sign.ensures ∙ ap (λ t. signed t c.lowest-x.result.0) ea) (c.with_sign-2.ensures ∙ ap (λ t. signed t c.lowest-x.result.1) eb)).1

pub returns-clause-some : goal.returns-clause-some
returns-clause-some c =
    let ea = to_z-of_z w128 c.args.a c.ranges.a in
    let eb = to_z-of_z w128 c.args.b c.ranges.b in
    let ed = to_z-of_z w128 c.args.d c.ranges.d in
    let red : Reduces (unsigned_abs c.args.a) (unsigned_abs c.args.b) (unsigned_abs c.args.d) c.lowest-x.result.0 c.lowest-x.result.1 c.lowest-x.result.2 =
    reduces_same _ _ _ _ _ _ _ _ _ (c.unsigned_abs.ensures.value ∙ ap unsigned_abs ea) (c.unsigned_abs-2.ensures.value ∙ ap unsigned_abs eb) (c.unsigned_abs-3.ensures.value ∙ ap unsigned_abs ed) c.lowest-x.ensures in
    made c.args.a c.args.b c.with_sign.result c.with_sign-2.result (unsigned_abs c.args.d) _ _ _ (omega (arith, ints, c.requires.d.0)) red c.if-x.false c.if-y.false c.if-z.false
    (c.with_sign.ensures ∙ ap (λ t. signed t c.lowest-x.result.0) ea) (c.with_sign-2.ensures ∙ ap (λ t. signed t c.lowest-x.result.1) eb)

use Rattle.std.proofs.Common.{arith, ◌∙◌, sym, subst, ap}
use Rattle.std.specs.Prelude.{ℤ, pos, ◌+ℤ◌, ◌*ℤ◌, ◌≤ℤ◌, ◌<ℤ◌}
use Rattle.std.specs.Int.{w128}
use Rattle.std.proofs.lemmas.Int.{to_z-of_z}
use Rattle.exact.specs.Number.{ExactNumber, mul, whole}
use Rattle.exact.specs.Floor.{IsFloor}
use Rattle.qroot2.specs.Root.{IsRootPart}
use Rattle.qroot2.proofs.callers.Held.{held_sum}
use Rattle.qroot2.proofs.Roots.{floor_of}
use Rattle.qroot2.proofs.floor.floor_of.Goals as goal

pub returns : goal.returns
returns c =
    let x : ExactNumber = record { a = c.args.a; b = c.args.b; d = c.args.d } in
    let a = to_z-of_z w128 c.args.a c.ranges.a in
    let b = to_z-of_z w128 c.args.b c.ranges.b in
    let sum = held_sum c.multiple.result c.root_part.result (omega (arith, c.multiple.ensures.bound)) (omega (arith, c.root_part.ensures.bound)) in
    subst (λ (z : ℤ). IsFloor (mul (whole c.args.n) x) z) (sym (to_z-of_z w128 c.quotient.result (record { sfits = c.quotient.type_inv })))
    (floor_of c.args.n x (c.multiple.result +ℤ c.root_part.result) c.root_part.result c.quotient.result c.requires.d
    (ap (λ (z : ℤ). z +ℤ c.root_part.result) (c.multiple.ensures.value ∙ ap (λ (z : ℤ). pos c.args.n *ℤ z) a))
    (subst (λ (z : ℤ). IsRootPart (pos c.args.n *ℤ z) c.root_part.result) b c.root_part.ensures.value)
    (subst (λ (z : ℤ). (c.quotient.result *ℤ pos c.args.d) ≤ℤ z) sum c.quotient.ensures.below)
    (subst (λ (z : ℤ). z <ℤ ((c.quotient.result +ℤ pos 1) *ℤ pos c.args.d)) sum c.quotient.ensures.above))

use Rattle.std.proofs.Common.{◌≤◌, ◌^◌, ap, ◌∙◌, arith}
use Rattle.std.specs.Prelude.{ℤ, pos, ◌*ℤ◌, unsigned_abs}
use Rattle.std.proofs.lemmas.Int.{unsigned_abs-mul}
use Rattle.plane.proofs.Passed.{passed}
use Rattle.plane.proofs.Numerators.{product_is, first_within}
use Rattle.plane.specs.Ways.{root}
use Rattle.plane.proofs.ways.product.Goals as goal

doubled : (b : ℤ) → unsigned_abs b ≤ 2 ^ 120 → unsigned_abs (pos 2 *ℤ b) ≤ 2 ^ 121
doubled b h = omega (arith, unsigned_abs-mul (pos 2) b)

pub two_products-requires : goal.two_products-requires
two_products-requires c =
    let a = passed c.a-a.result (omega (arith, c.a-a.ensures.bound)) in
    let b = passed c.b-b.result (omega (arith, c.b-b.ensures.bound)) in
    let cc' = passed c.a-c.result (omega (arith, c.a-c.ensures.bound)) in
    let d = passed c.b-d.result (omega (arith, c.b-d.ensures.bound)) in
    rw (a, b, cc', d, passed (pos 2 *ℤ c.b-b.result) (doubled c.b-b.result c.b-b.ensures.bound), c.a-a.ensures.value, c.b-b.ensures.value, c.a-c.ensures.value, c.b-d.ensures.value)
    (first_within c.args.x.a c.args.x.b c.args.y.a c.args.y.b c.requires)

pub returns : goal.returns
returns c =
    let a = passed c.a-a.result (omega (arith, c.a-a.ensures.bound)) ∙ c.a-a.ensures.value in
    let b = passed c.b-b.result (omega (arith, c.b-b.ensures.bound)) ∙ c.b-b.ensures.value in
    let e = passed c.a-c.result (omega (arith, c.a-c.ensures.bound)) ∙ c.a-c.ensures.value in
    let d = passed c.b-d.result (omega (arith, c.b-d.ensures.bound)) ∙ c.b-d.ensures.value in
    let b2 = passed (pos 2 *ℤ c.args.x.b) (doubled c.args.x.b (omega (arith, ap unsigned_abs c.b-b.ensures.value, c.b-b.ensures.bound))) in
    let first = ap (λ p. p.a) c.new.ensures ∙ passed c.two_products.result (omega (arith, c.two_products.ensures.within)) ∙ rw (a, e, b, d, b2) at c.two_products.ensures.value in
    let second = ap (λ p. p.b) c.new.ensures ∙ passed c.two_products-2.result (omega (arith, c.two_products-2.ensures.within)) ∙ rw (a, e, b, d) at c.two_products-2.ensures.value in
    product_is (root c.args.x) (root c.args.y) (root c.new.result) first second

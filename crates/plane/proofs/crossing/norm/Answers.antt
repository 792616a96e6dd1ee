use Rattle.std.proofs.Common.{◌∙◌, arith, ◌≤◌, ◌^◌, subst, sym}
use Rattle.std.specs.Prelude.{ℤ, pos, neg_ℤ, ◌*ℤ◌, unsigned_abs}
use Rattle.std.proofs.lemmas.Int.{unsigned_abs-mul}
use Rattle.plane.proofs.Passed.{passed}
use Rattle.plane.proofs.callers.Crossed.{norm_told, norm_within}
use Rattle.plane.specs.Ways.{root}
use Rattle.plane.proofs.crossing.norm.Goals as goal

doubled : (b : ℤ) → unsigned_abs b ≤ 16 → unsigned_abs (neg_ℤ (pos 2) *ℤ b) ≤ 2 ^ 121
doubled b h = omega (arith, unsigned_abs-mul (neg_ℤ (pos 2)) b)

pub returns-clause-value : goal.returns-clause-value
returns-clause-value c =
    let a = passed c.a-a.result (omega (arith, c.a-a.ensures.bound)) ∙ c.a-a.ensures.value in
    let b = passed c.b-b.result (omega (arith, c.b-b.ensures.bound)) ∙ c.b-b.ensures.value in
    let b2 = passed (neg_ℤ (pos 2) *ℤ c.args.x.b) (doubled c.args.x.b (omega (arith, c.requires))) in
    passed c.two_products.result (omega (arith, c.two_products.ensures.within)) ∙ norm_told (root c.args.x) c.two_products.result (rw (a, b, b2) at c.two_products.ensures.value)

pub returns-clause-within : goal.returns-clause-within
returns-clause-within c = subst (λ z. unsigned_abs z ≤ 1024) (sym (returns-clause-value c)) (norm_within (root c.args.x) c.requires)

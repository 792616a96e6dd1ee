use Rattle.std.proofs.Common.{arith, ◌≡◌, ap, ◌∙◌}
use Rattle.std.specs.Prelude.{◌+ℤ◌, ◌*ℤ◌}
use Rattle.std.proofs.lemmas.Int.{fits_signed_from_abs}
use Rattle.std.specs.Int.{w128}
use Rattle.qroot2.specs.Wide.{Pair, pair_mul}
use Rattle.qroot2.proofs.callers.Held.{held_product, both_same, held_128, small_sum, small_sum_twice, small_sum_bound, small_sum_twice_bound, doubled_product}
use Rattle.qroot2.proofs.callers.Pairs.{by_parts}
use Rattle.qroot2.proofs.dir.product.Goals as goal

pub overflow_add-times-2 : goal.overflow_add-times-2
overflow_add-times-2 c =
    let r = c.times.result in
    let s = c.times-roots.result in
    let e = both_same ◌+ℤ◌ _ _ _ _ (small_sum r s c.times.ensures.small c.times-roots.ensures.small) (held_128 s (omega (arith, c.times-roots.ensures.small))) in
    fits_signed_from_abs w128 _ (let b = small_sum_twice_bound r s _ c.times.ensures.small c.times-roots.ensures.small e in omega (arith, b))

pub new-requires-clause-a : goal.new-requires-clause-a
new-requires-clause-a c =
    let r = c.times.result in
    let s = c.times-roots.result in
    let b = small_sum_twice_bound r s _ c.times.ensures.small c.times-roots.ensures.small (small_sum_twice r s c.times.ensures.small c.times-roots.ensures.small) in
    omega (arith, b)

pub returns-clause-value : goal.returns-clause-value
returns-clause-value c =
    let x = c.args.x in
    let y = c.args.y in
    let aa : c.times.result ≡ x.a *ℤ y.a = held_product _ _ _ x.a y.a c.times.ensures.value c.a.ensures.value c.a-2.ensures.value (omega (arith, c.requires.x.0)) (omega (arith, c.requires.y.0)) in
    let bb : c.times-roots.result ≡ x.b *ℤ y.b = held_product _ _ _ x.b y.b c.times-roots.ensures.value c.b.ensures.value c.b-2.ensures.value (omega (arith, c.requires.x.1)) (omega (arith, c.requires.y.1)) in
    let ab : c.times-2.result ≡ x.a *ℤ y.b = held_product _ _ _ x.a y.b c.times-2.ensures.value c.a-3.ensures.value c.b-3.ensures.value (omega (arith, c.requires.x.0)) (omega (arith, c.requires.y.1)) in
    let ba : c.times-3.result ≡ x.b *ℤ y.a = held_product _ _ _ x.b y.a c.times-3.ensures.value c.b-4.ensures.value c.a-4.ensures.value (omega (arith, c.requires.x.1)) (omega (arith, c.requires.y.0)) in
    by_parts c.new.result (pair_mul x y)
    (ap (λ (p : Pair). p.a) c.new.ensures ∙ small_sum_twice c.times.result c.times-roots.result c.times.ensures.small c.times-roots.ensures.small ∙ doubled_product x.a x.b y.a y.b _ _ aa bb)
    (ap (λ (p : Pair). p.b) c.new.ensures ∙ small_sum c.times-2.result c.times-3.result c.times-2.ensures.small c.times-3.ensures.small ∙ both_same ◌+ℤ◌ _ _ _ _ ab ba)

pub returns-clause-small : goal.returns-clause-small
returns-clause-small c = (
  small_sum_twice_bound c.times.result c.times-roots.result _ c.times.ensures.small c.times-roots.ensures.small (ap (λ (p : Pair). p.a) c.new.ensures ∙ small_sum_twice c.times.result c.times-roots.result c.times.ensures.small c.times-roots.ensures.small),
  small_sum_bound c.times-2.result c.times-3.result _ c.times-2.ensures.small c.times-3.ensures.small (ap (λ (p : Pair). p.b) c.new.ensures ∙ small_sum c.times-2.result c.times-3.result c.times-2.ensures.small c.times-3.ensures.small),
)

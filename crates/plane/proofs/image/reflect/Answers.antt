use Rattle.std.proofs.Common.{◌<◌, ◌*◌, arith, ap, ◌∙◌, subst, sym, inl, inr}
use Rattle.exact.specs.Number.{ExactNumber, Same, IsRepresentable}
use Rattle.geometry.specs.Root.{times}
use Rattle.geometry.specs.Gap.{num, dn, gx, gy}
use Rattle.qroot2.proofs.callers.Held.{both_same}
use Rattle.exact.proofs.Order.{same_turned}
use Rattle.plane.specs.Ways.{root}
use Rattle.plane.specs.Crossings.{weight_of}
use Rattle.plane.proofs.callers.Imaged.{by_x, by_y, image_made, image_self, made_part, neg_small, none_imaged, turned_x, turned_y}
use Rattle.plane.proofs.image.reflect.Goals as goal

pub returns-in_err-x-clause-none : goal.returns-in_err-x-clause-none
returns-in_err-x-clause-none c =
    let k : c.args.axis < 16 = omega (arith, c.number-number.ensures.value, c.number-number.ensures.small) in
    let a = c.args.at.now in
    let p = c.args.point.now in
    let cosine = root c.doubled.result.0 in
    let sine = root c.doubled.result.1 in
    let image = image_self c.args.axis a p cosine sine k c.doubled.ensures.turned in
    let others = ap (λ n. 2 * n) c.weight-others.ensures.value in
    let below = both_same ◌*◌ _ _ _ _ (c.from.ensures ∙ c.weight.ensures.value) (c.from-2.ensures ∙ others) in
    let by_x = by_x c.doubled.result.1 c.doubled.result.0 c.neg.result c.new-way.result.x c.new-way.result.y (root c.cross_product.result) (gx a p) (gy a p) c.cross_product.ensures.value c.neg.ensures c.new-way.ensures.x c.new-way.ensures.y in
    let x = made_part (root c.from_origin-from.result.x) (root c.cross_product.result) (times (num a.x) (dn a.y)) (turned_x cosine sine (gx a p) (gy a p)) _ _ (weight_of p) (weight_of a) c.from_origin-from.ensures.x by_x others below in
    rw c.from_residual.ensures (none_imaged c.args.axis a p _ k image (inl (λ r. c.in_err-x.ensures.none (subst (λ (z : ExactNumber). IsRepresentable z) (sym x) r))))

pub cross_product-requires-2-clause-vx : goal.cross_product-requires-2-clause-vx
cross_product-requires-2-clause-vx c = neg_small c.doubled.result.0 c.neg-2.result c.neg-2.ensures c.doubled.ensures.small.0

pub returns-in_err-y-clause-none : goal.returns-in_err-y-clause-none
returns-in_err-y-clause-none c =
    let k : c.args.axis < 16 = omega (arith, c.number-number.ensures.value, c.number-number.ensures.small) in
    let a = c.args.at.now in
    let p = c.args.point.now in
    let cosine = root c.doubled.result.0 in
    let sine = root c.doubled.result.1 in
    let image = image_self c.args.axis a p cosine sine k c.doubled.ensures.turned in
    let others = ap (λ n. 2 * n) c.weight-others.ensures.value in
    let below = both_same ◌*◌ _ _ _ _ (c.from.ensures ∙ c.weight.ensures.value) (c.from-2.ensures ∙ others) in
    let by_y = by_y c.doubled.result.1 c.doubled.result.0 c.neg-2.result c.neg-3.result c.new-way.result.x c.new-way.result.y (root c.cross_product-2.result) (gx a p) (gy a p) c.cross_product-2.ensures.value c.neg-2.ensures c.neg-3.ensures c.new-way.ensures.x c.new-way.ensures.y in
    let y = made_part (root c.from_origin-from.result.y) (root c.cross_product-2.result) (times (num a.y) (dn a.x)) (turned_y cosine sine (gx a p) (gy a p)) _ _ (weight_of p) (weight_of a) c.from_origin-from.ensures.y by_y others below in
    rw c.from_residual-in_err-y.ensures (none_imaged c.args.axis a p _ k image (inr (λ r. c.in_err-y.ensures.none (subst (λ (z : ExactNumber). IsRepresentable z) (sym y) r))))

pub returns-clause-some : goal.returns-clause-some
returns-clause-some c =
    let k : c.args.axis < 16 = omega (arith, c.number-number.ensures.value, c.number-number.ensures.small) in
    let a = c.args.at.now in
    let p = c.args.point.now in
    let cosine = root c.doubled.result.0 in
    let sine = root c.doubled.result.1 in
    let others = ap (λ n. 2 * n) c.weight-others.ensures.value in
    let below = both_same ◌*◌ _ _ _ _ (c.from.ensures ∙ c.weight.ensures.value) (c.from-2.ensures ∙ others) in
    let by_x = by_x c.doubled.result.1 c.doubled.result.0 c.neg.result c.new-way.result.x c.new-way.result.y (root c.cross_product.result) (gx a p) (gy a p) c.cross_product.ensures.value c.neg.ensures c.new-way.ensures.x c.new-way.ensures.y in
    let x = made_part (root c.from_origin-from.result.x) (root c.cross_product.result) (times (num a.x) (dn a.y)) (turned_x cosine sine (gx a p) (gy a p)) _ _ (weight_of p) (weight_of a) c.from_origin-from.ensures.x by_x others below in
    let by_y = by_y c.doubled.result.1 c.doubled.result.0 c.neg-2.result c.neg-3.result c.new-way.result.x c.new-way.result.y (root c.cross_product-2.result) (gx a p) (gy a p) c.cross_product-2.ensures.value c.neg-2.ensures c.neg-3.ensures c.new-way.ensures.x c.new-way.ensures.y in
    let y = made_part (root c.from_origin-from.result.y) (root c.cross_product-2.result) (times (num a.y) (dn a.x)) (turned_y cosine sine (gx a p) (gy a p)) _ _ (weight_of p) (weight_of a) c.from_origin-from.ensures.y by_y others below in
    image_made c.args.axis a p (record { x = c.in_ok-x.x; y = c.in_ok-y.y }) cosine sine k c.doubled.ensures.turned (record {
      x = same_turned c.in_ok-x.x _ (subst (λ (z : ExactNumber). Same c.in_ok-x.x z) x c.in_ok-x.ensures.some.0);
      y = same_turned c.in_ok-y.y _ (subst (λ (z : ExactNumber). Same c.in_ok-y.y z) y c.in_ok-y.ensures.some.0);
    })

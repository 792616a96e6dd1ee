use Rattle.std.proofs.Common.{◌<◌, arith, subst, sym, inl, inr}
use Rattle.exact.specs.Number.{Same, IsRepresentable}
use Rattle.exact.specs.Plane.{vector}
use Rattle.plane.specs.Ways.{root}
use Rattle.plane.proofs.Numerators.{number_root}
use Rattle.plane.proofs.callers.Crossed.{whole_small, over_x, over_y, none_any, none_held, some_held}
use Rattle.plane.proofs.crossing.cross_lines.Goals as goal

pub denominators-below-requires-clause-whole : goal.denominators-below-requires-clause-whole
denominators-below-requires-clause-whole c =
    let k : c.args.first < 16 = omega (arith, c.number.ensures.value, c.number.ensures.small) in
    let j : c.args.second < 16 = omega (arith, c.number-2.ensures.value, c.number-2.ensures.small) in
    whole_small c.args.first c.args.second (root c.determinant-det.result) k j c.requires c.determinant-det.ensures.value

pub returns-in_err-x-clause-none : goal.returns-in_err-x-clause-none
returns-in_err-x-clause-none c =
    let k : c.args.first < 16 = omega (arith, c.number.ensures.value, c.number.ensures.small) in
    let j : c.args.second < 16 = omega (arith, c.number-2.ensures.value, c.number-2.ensures.small) in
    let x = over_x c.args.first c.args.second c.args.p.now c.args.q.now (root c.vector-vx.result.0) (root c.vector-wx.result.0) (root c.lifted-a.result) (root c.lifted-b.result) (root c.cross_product.result) (root c.partner-by.result) (root c.determinant-det.result) c.denominators-below.result
    c.cross_product.ensures.value (number_root c.vector-vx.result.0 (vector c.args.first).x c.vector-vx.ensures.x) (number_root c.vector-wx.result.0 (vector c.args.second).x c.vector-wx.ensures.x) c.lifted-a.ensures.value c.lifted-b.ensures.value c.partner-by.ensures.value c.determinant-det.ensures.value c.denominators-below.ensures.value in
    none_any _ _ (none_held c.args.first c.args.second c.args.p.now c.args.q.now k j c.requires (inl (λ r. c.in_err-x.ensures.none (subst (λ z. IsRepresentable z) (sym x) r))))

pub returns-in_err-y-clause-none : goal.returns-in_err-y-clause-none
returns-in_err-y-clause-none c =
    let k : c.args.first < 16 = omega (arith, c.number.ensures.value, c.number.ensures.small) in
    let j : c.args.second < 16 = omega (arith, c.number-2.ensures.value, c.number-2.ensures.small) in
    let y = over_y c.args.first c.args.second c.args.p.now c.args.q.now (root c.vector-vx.result.1) (root c.vector-wx.result.1) (root c.lifted-a.result) (root c.lifted-b.result) (root c.cross_product-2.result) (root c.partner-by.result) (root c.determinant-det.result) c.denominators-below.result
    c.cross_product-2.ensures.value (number_root c.vector-vx.result.1 (vector c.args.first).y c.vector-vx.ensures.y) (number_root c.vector-wx.result.1 (vector c.args.second).y c.vector-wx.ensures.y) c.lifted-a.ensures.value c.lifted-b.ensures.value c.partner-by.ensures.value c.determinant-det.ensures.value c.denominators-below.ensures.value in
    none_any _ _ (none_held c.args.first c.args.second c.args.p.now c.args.q.now k j c.requires (inr (λ r. c.in_err-y.ensures.none (subst (λ z. IsRepresentable z) (sym y) r))))

pub returns-clause-some : goal.returns-clause-some
returns-clause-some c =
    let k : c.args.first < 16 = omega (arith, c.number.ensures.value, c.number.ensures.small) in
    let j : c.args.second < 16 = omega (arith, c.number-2.ensures.value, c.number-2.ensures.small) in
    let x = over_x c.args.first c.args.second c.args.p.now c.args.q.now (root c.vector-vx.result.0) (root c.vector-wx.result.0) (root c.lifted-a.result) (root c.lifted-b.result) (root c.cross_product.result) (root c.partner-by.result) (root c.determinant-det.result) c.denominators-below.result
    c.cross_product.ensures.value (number_root c.vector-vx.result.0 (vector c.args.first).x c.vector-vx.ensures.x) (number_root c.vector-wx.result.0 (vector c.args.second).x c.vector-wx.ensures.x) c.lifted-a.ensures.value c.lifted-b.ensures.value c.partner-by.ensures.value c.determinant-det.ensures.value c.denominators-below.ensures.value in
    let y = over_y c.args.first c.args.second c.args.p.now c.args.q.now (root c.vector-vx.result.1) (root c.vector-wx.result.1) (root c.lifted-a.result) (root c.lifted-b.result) (root c.cross_product-2.result) (root c.partner-by.result) (root c.determinant-det.result) c.denominators-below.result
    c.cross_product-2.ensures.value (number_root c.vector-vx.result.1 (vector c.args.first).y c.vector-vx.ensures.y) (number_root c.vector-wx.result.1 (vector c.args.second).y c.vector-wx.ensures.y) c.lifted-a.ensures.value c.lifted-b.ensures.value c.partner-by.ensures.value c.determinant-det.ensures.value c.denominators-below.ensures.value in
    some_held c.args.first c.args.second c.args.p.now c.args.q.now (record { x = c.in_ok-x.x; y = c.in_ok-y.y }) k j c.requires (subst (λ z. Same c.in_ok-x.x z) x c.in_ok-x.ensures.some.0) (subst (λ z. Same c.in_ok-y.y z) y c.in_ok-y.ensures.some.0)

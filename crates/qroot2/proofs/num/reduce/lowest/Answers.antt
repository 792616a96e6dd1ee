use Rattle.std.proofs.lemmas.Nat.Gcd.{dvd_trans}
use Rattle.qroot2.proofs.callers.Reduced.{divisor_above, reduced, reduced_already, reduced_over_one}
use Rattle.qroot2.proofs.num.reduce.lowest.Goals as goal

pub nonzero_div-result : goal.nonzero_div-result
nonzero_div-result c = divisor_above c.gcd-g.result c.args.d c.requires (dvd_trans c.gcd-g.result c.gcd-g.ensures.1 c.gcd.ensures.1)

pub nonzero_div-result-2 : goal.nonzero_div-result-2
nonzero_div-result-2 c = divisor_above c.gcd-g.result c.args.d c.requires (dvd_trans c.gcd-g.result c.gcd-g.ensures.1 c.gcd.ensures.1)

pub nonzero_div-result-3 : goal.nonzero_div-result-3
nonzero_div-result-3 c = divisor_above c.gcd-g.result c.args.d c.requires (dvd_trans c.gcd-g.result c.gcd-g.ensures.1 c.gcd.ensures.1)

pub returns-then-d-eq1 : goal.returns-then-d-eq1
returns-then-d-eq1 c = reduced_over_one c.args.a c.args.b c.args.d c.if-d-eq1.true

pub returns-then-g-eq1 : goal.returns-then-g-eq1
returns-then-g-eq1 c = reduced_already c.args.a c.args.b c.args.d c.gcd.result c.gcd-g.result c.if-g-eq1.true c.gcd.ensures c.gcd-g.ensures

pub returns : goal.returns
returns c = reduced c.args.a c.args.b c.args.d c.gcd.result c.gcd-g.result c.requires c.gcd.ensures c.gcd-g.ensures

use Rattle.qroot2.proofs.callers.Reduced.{reduced_odd, reduced_odd_already, odd_divisor_above}
use Rattle.qroot2.proofs.num.reduce.narrow_lowest.Goals as goal

pub nonzero_div-result : goal.nonzero_div-result
nonzero_div-result c = odd_divisor_above c.without_twos-x.result.0 c.without_twos-x.result.1 c.without_twos-x.result.2 c.odd_part.result c.narrow_gcd.result c.narrow_gcd-g.result
    c.without_twos-x.ensures.above c.odd_part.ensures.divides c.narrow_gcd.ensures c.narrow_gcd-g.ensures

pub nonzero_div-result-2 : goal.nonzero_div-result-2
nonzero_div-result-2 c = odd_divisor_above c.without_twos-x.result.0 c.without_twos-x.result.1 c.without_twos-x.result.2 c.odd_part.result c.narrow_gcd.result c.narrow_gcd-g.result
    c.without_twos-x.ensures.above c.odd_part.ensures.divides c.narrow_gcd.ensures c.narrow_gcd-g.ensures

pub nonzero_div-result-3 : goal.nonzero_div-result-3
nonzero_div-result-3 c = odd_divisor_above c.without_twos-x.result.0 c.without_twos-x.result.1 c.without_twos-x.result.2 c.odd_part.result c.narrow_gcd.result c.narrow_gcd-g.result
    c.without_twos-x.ensures.above c.odd_part.ensures.divides c.narrow_gcd.ensures c.narrow_gcd-g.ensures

pub returns-then-g-eq1 : goal.returns-then-g-eq1
returns-then-g-eq1 c = c.without_twos-x.ensures.same _ _ _ (reduced_odd_already c.without_twos-x.result.0 c.without_twos-x.result.1 c.without_twos-x.result.2 c.odd_part.result c.narrow_gcd.result c.narrow_gcd-g.result
    c.without_twos-x.ensures.odd c.odd_part.ensures.odd c.if-g-eq1.true c.narrow_gcd.ensures c.narrow_gcd-g.ensures)

pub returns : goal.returns
returns c = c.without_twos-x.ensures.same _ _ _ (reduced_odd c.without_twos-x.result.0 c.without_twos-x.result.1 c.without_twos-x.result.2 c.odd_part.result c.narrow_gcd.result c.narrow_gcd-g.result
    c.without_twos-x.ensures.above c.without_twos-x.ensures.odd c.odd_part.ensures.divides c.odd_part.ensures.odd c.narrow_gcd.ensures c.narrow_gcd-g.ensures)

use Rattle.std.proofs.Common.{◌≡◌, arith, subst}
use Rattle.lattice.specs.Search.{IsSeen}
use Rattle.lattice.specs.Found.{Holds}
use Rattle.lattice.proofs.search.search.Goals as goal

pub returns : goal.returns
returns c =
    let e : c.loop-n.n ≡ c.args.m = omega (arith, c.loop-n-test.false, c.loop-n.auto.n-end) in
    subst (λ n. Holds (IsSeen c.args.window n 0) c.loop-n.found) e c.loop-n.invariant

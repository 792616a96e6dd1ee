use Rattle.std.proofs.Common.{◌≡◌, ◌+◌, ◌*◌, arith, subst}
use Rattle.lattice.specs.Search.{IsSeen}
use Rattle.lattice.specs.Found.{Holds}
use Rattle.lattice.proofs.Seen.{seen_field}
use Rattle.lattice.proofs.search.scan.Goals as goal

pub returns : goal.returns
returns c =
    let e : c.loop-j.j ≡ 2 * c.args.window.k + 1 = omega (arith, c.loop-j-test.false, c.loop-j.auto.j-end) in
    seen_field c.args.window c.args.n c.loop-j.found (subst (λ j. Holds (IsSeen c.args.window c.args.n j) c.loop-j.found) e c.loop-j.invariant)

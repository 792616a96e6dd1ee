use Rattle.std.proofs.Common.{◌≤◌, ◌^◌, arith, subst, sym}
use Rattle.std.specs.Prelude.{ℤ, unsigned_abs}
use Rattle.qroot2.proofs.callers.Held.{held_128}
use Rattle.decimals.proofs.Floors.{floor_size}
use Rattle.decimals.proofs.point.floor.Goals as goal

pub returns-clause-bound : goal.returns-clause-bound
returns-clause-bound c =
    let e = c.floor_scaled.ensures in
    let k = c.floor_scaled.result in
    let canonical = c.d-canonical.ensures.canonical in
    let size = floor_size c.args.scale c.args.number.now k c.requires canonical e.below e.above in
    subst (λ (t : ℤ). unsigned_abs t ≤ 2 ^ 99) (sym (held_128 k (omega (arith, size)))) size

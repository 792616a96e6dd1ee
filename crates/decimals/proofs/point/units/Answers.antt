use Rattle.std.proofs.Common.{◌≡◌, ◌≤◌, ◌^◌, ℕ, arith, subst, sym}
use Rattle.std.specs.Prelude.{ℤ, pos, ◌+ℤ◌, ◌-ℤ◌, unsigned_abs}
use Rattle.std.proofs.lemmas.Int.{ints}
use Rattle.exact.specs.Number.{whole, mul}
use Rattle.exact.specs.Floor.{IsFloor}
use Rattle.qroot2.proofs.callers.Held.{through, held_128}
use Rattle.decimals.proofs.point.units.Goals as goal

back : (k m : ℤ) (origin : ℕ) → m ≡ pos origin → unsigned_abs k ≤ 2 ^ 99 → origin ≤ 400000000000000
    → through (through k -ℤ through m) +ℤ pos origin ≡ k
back k m origin e h o =
    let less = held_128 (k -ℤ pos origin) (omega (arith, ints)) in
    rw (e, held_128 k (omega arith), held_128 (pos origin) (omega (arith, ints)), less) (omega (arith, ints))

pub returns : goal.returns
returns c =
    let k = c.floor.ensures in
    let same = back c.floor.result c.from.result c.args.origin c.from.ensures k.bound c.requires.origin in
    subst (λ (t : ℤ). IsFloor (mul (whole c.args.scale) c.args.coordinate.now) t) (sym same) k.floor

use Rattle.std.proofs.Common.{◌/◌, arith}
use Rattle.std.proofs.lemmas.Nat.{div-add-mod'}
use Rattle.std.proofs.lemmas.Nat.Gcd.{dvd_refl, dvd_trans}
use Rattle.qroot2.proofs.callers.Reduced.{odd_kept, half_divides}
use Rattle.qroot2.proofs.num.reduce.odd_part.Goals as goal

pub loop-z-init : goal.loop-z-init
loop-z-init c = (c.requires, dvd_refl c.args.d, λ n o h. h)

pub loop-z-preserved : goal.loop-z-preserved
loop-z-preserved c =
    let even = c.loop-z-test.true in (
      omega (arith, div-add-mod' c.loop-z.z 2, even, c.loop-z.invariant.0),
      dvd_trans (c.loop-z.z / 2) (half_divides c.loop-z.z even) c.loop-z.invariant.1,
      λ n o h. odd_kept n c.loop-z.z even o (c.loop-z.invariant.2 n o h),
    )

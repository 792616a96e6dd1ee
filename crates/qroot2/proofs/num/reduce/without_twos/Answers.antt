use Rattle.std.proofs.Common.{arith}
use Rattle.std.proofs.lemmas.Nat.{div-add-mod'}
use Rattle.qroot2.proofs.callers.Reduced.{reduced_halves}
use Rattle.qroot2.proofs.num.reduce.without_twos.Goals as goal

pub loop-x-init : goal.loop-x-init
loop-x-init c = (c.requires, λ x y z h. h)

pub loop-x-preserved : goal.loop-x-preserved
loop-x-preserved c = (
  omega (arith, div-add-mod' c.loop-x.z 2, c.if-z-eq0.true, c.loop-x.invariant.0),
  λ x y z h. c.loop-x.invariant.1 x y z (reduced_halves c.loop-x.x c.loop-x.y c.loop-x.z x y z
      (c.loop-x-test.true, c.if-y-eq0.true, c.if-z-eq0.true) h),
)

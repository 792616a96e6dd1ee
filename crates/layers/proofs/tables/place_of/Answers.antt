use Rattle.std.proofs.Common.{arith}
use Rattle.std.proofs.lemmas.Int.{ints}
use Rattle.layers.proofs.callers.Places.{place_zero, up_more, down_more}
use Rattle.layers.proofs.tables.place_of.Goals as goal
use Rattle.layers.proofs.tables.place_of.Goals.{then-k-eq0, else-k-eq0}

pub loop-k-init : goal.loop-k-init
loop-k-init c = let e = place_zero c.args.sectors.now in record { value = omega (arith, ints); high = omega arith; low = omega arith }

pub loop-k-preserved : goal.loop-k-preserved
loop-k-preserved c = let i = c.loop-k.invariant in let l = c.loop-k-test.true in let m = c.requires.few in let n = c.requires.within in let v = c.angle_of-angle.ensures.value in let s = c.angle_of-angle.ensures.small in elim c.if-k-eq0.branch [
  | then-k-eq0 w ↦ record { value = up_more c.args.sectors.now c.loop-k.k c.loop-k.x c.if-k-eq0.x w.if-k-eq0.true (let x = w.x-is in omega arith) i.value; high = omega arith; low = omega arith }
  | else-k-eq0 w ↦ record { value = down_more c.args.sectors.now c.loop-k.k c.loop-k.x c.if-k-eq0.x (omega (arith, w.if-k-eq0.false)) (omega arith) (let x = w.x-is in omega arith) i.value; high = omega arith; low = omega arith }
]

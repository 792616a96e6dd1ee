use Rattle.std.proofs.Common.{arith, ◌-◌}
use Rattle.qroot2.proofs.Descent.{turn_kept}
use Rattle.qroot2.proofs.wide.above.Goals as goal

pub loop-y-preserved : goal.loop-y-preserved
loop-y-preserved c =
    let kept = turn_kept c.loop-y.x c.loop-y.y (c.loop-y.y - (c.loop-y.x - c.loop-y.y)) (c.loop-y.x - c.loop-y.y) c.args.a c.args.b c.loop-y.same (omega arith) (omega arith) c.loop-y.invariant.held c.loop-y.invariant.turned in
    record {
      x_above = omega arith;
      y_above = omega arith;
      x_fits = omega arith;
      y_fits = omega arith;
      held = kept.0;
      turned = kept.1;
    }

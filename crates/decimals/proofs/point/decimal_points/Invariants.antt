use Rattle.std.proofs.Common.{take}
use Rattle.decimals.specs.DecimalPoint.{AreDecimalPoints}
use Rattle.decimals.proofs.point.decimal_points.Given as goal

abbrev pub invariant-loop-point : goal.invariant-loop-point
invariant-loop-point l = AreDecimalPoints l.scale l.origin (take l.point-index l.points) l.list.items

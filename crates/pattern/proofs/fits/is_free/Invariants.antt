use Rattle.std.proofs.Common.{◌⊎◌}
use Rattle.std.specs.Prelude.{Contains}
use Rattle.exact.specs.Plane.{Overlap}
use Rattle.sheet.specs.Pattern.{ExactCrease}
use Rattle.pattern.proofs.fits.is_free.Given as goal

abbrev pub invariant-loop-other : goal.invariant-loop-other
invariant-loop-other l = record {
  overlap : (g : ExactCrease) → Contains l.other-iterator g → Contains l.pattern.creases g × Overlap g.seg l.crease.seg;
  seen : (g : ExactCrease) → Contains l.pattern.creases g → Overlap g.seg l.crease.seg → Contains l.other-iterator g ⊎ Contains l.removed g;
}

use Rattle.std.proofs.Common.{◌∙◌, arith}
use Rattle.std.specs.Prelude.{◌-ℤ◌}
use Rattle.qroot2.proofs.callers.Held.{both_same, held_minus, held_scaled}
use Rattle.qroot2.proofs.num.whole.narrow_cross.Goals as goal

pub returns-clause-value : goal.returns-clause-value
returns-clause-value c =
    held_minus c.narrow_scaled.result c.narrow_scaled-2.result (omega (arith, c.narrow_scaled.ensures.bound)) (omega (arith, c.narrow_scaled-2.ensures.bound))
    ∙ both_same ◌-ℤ◌ _ _ _ _ (held_scaled _ c.args.x c.args.e c.requires.x c.narrow_scaled.ensures.value) (held_scaled _ c.args.y c.args.d c.requires.y c.narrow_scaled-2.ensures.value)

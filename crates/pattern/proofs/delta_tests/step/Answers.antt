use Rattle.std.proofs.Common.{◌≡◌, sym, ◌∙◌, arith}
use Rattle.pattern.proofs.delta_tests.step.Goals as goal

pub between-requires : goal.between-requires
between-requires c =
    let wide : c.sheet-to.result.w ≡ c.sheet-from.result.w = omega arith in
    let high : c.sheet-to.result.h ≡ c.sheet-from.result.h = omega arith in
    sym c.sheet-to.ensures.sheet ∙ (λ i. record { w = wide i; h = high i }) ∙ c.sheet-from.ensures.sheet

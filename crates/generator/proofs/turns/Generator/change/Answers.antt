use Rattle.std.proofs.Common.{refl, arith, ap, subst, inr, ◌∙◌}
use Rattle.generator.specs.Turns.{IsDrawn, after}
use Rattle.generator.proofs.turns.Generator.change.Goals as goal

pub returns-else-turn-eq7 : goal.returns-else-turn-eq7
returns-else-turn-eq7 c = inr (inr (
  omega (arith, c.below-turn.ensures.value, c.below-turn.ensures.small, c.if-turn-eq6.false, c.if-turn-eq7.false),
  (c.drawing.result, subst (λ s. IsDrawn s c.drawing.result) c.below-turn.ensures.state c.drawing.ensures.drawing, refl),
  c.drawing.ensures.state ∙ ap (after 5) c.below-turn.ensures.state,
))

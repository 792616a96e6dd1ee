use Rattle.std.proofs.Common.{ap, ◌∙◌}
use Rattle.std.proofs.lemmas.Bool.{false≢true}
use Rattle.std.proofs.lemmas.List.{get_or_read}
use Rattle.layers.proofs.Stars.{falls_back}
use Rattle.layers.proofs.star.Star.new.Goals as goal

pub returns-then-number-least-clause-ascends : goal.returns-then-number-least-clause-ascends
returns-then-number-least-clause-ascends c = let i = c.loop-ray.invariant in (
  λ e. absurd (false≢true e),
  λ f. absurd (falls_back c.args.rays.now c.loop-ray.ray-index c.number-number.result c.loop-ray.least c.loop-ray-test.true
      (c.number-number.ensures.value ∙ ap (λ r. r.dir) (get_or_read c.args.rays.now c.loop-ray.ray-index c.ray-item.result c.loop-ray-test.true c.ray-item.is _)) c.if-number-least.true i.start i.last f),
)

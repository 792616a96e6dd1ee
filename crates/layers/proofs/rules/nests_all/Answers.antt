use Rattle.std.proofs.Common.{sym, ◌∙◌}
use Rattle.std.proofs.lemmas.Bool.{false≢true}
use Rattle.layers.proofs.rules.nests_all.Goals as goal

pub returns-then-not-is_nested : goal.returns-then-not-is_nested
returns-then-not-is_nested c = (λ e. absurd (false≢true e), λ f. sym c.if-not-is_nested.true ∙ c.is_nested.ensures.1 (f c.loop-j.j c.loop-j-test.true))

use Rattle.exact.proofs.Unique.{unique}
use Rattle.exact.proofs.Told.{same_itself}
use Rattle.exact.specs.Number.{ExactNumber, Same}
use Rattle.std.proofs.Common.{subst}
use Rattle.qroot2.proofs.laws.equality_is_of_values.Goals as goal

pub returns : goal.returns
returns c = λ x y p q. (λ e. subst (λ (z : ExactNumber). Same x z) e (same_itself x), λ s. unique x y p q s)

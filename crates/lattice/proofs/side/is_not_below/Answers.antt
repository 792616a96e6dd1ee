use Rattle.std.proofs.Common.{ℕ}
use Rattle.std.specs.Prelude.{pos, neg_ℤ, ◌-ℤ◌, IsTrue, false}
use Rattle.std.proofs.lemmas.Bool.{false≢true}
use Rattle.exact.specs.Number.{Positive}
use Rattle.lattice.specs.Side.{NotBelow}
use Rattle.lattice.proofs.Sides.{nn_strict}
use Rattle.lattice.proofs.side.is_not_below.Goals as goal

strict : (a c b d : ℕ) → Positive (neg_ℤ (pos a -ℤ pos c)) (neg_ℤ (pos b -ℤ pos d)) → (IsTrue false → NotBelow a c b d) × (NotBelow a c b d → IsTrue false)
strict a c b d h = (λ e. absurd (false≢true e), λ n. absurd (nn_strict _ _ n.side h))

pub returns-in-Minus : goal.returns-in-Minus
returns-in-Minus c = strict c.args.a c.args.c c.args.b c.args.d c.in-Minus.ensures

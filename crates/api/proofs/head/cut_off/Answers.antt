use Rattle.std.proofs.Common.{◌≡◌, ◌==◌, List, ℕ, true, false, [], ◌∷◌, sym, refl, ◌∙◌, length, arith, eqb-true}
use Rattle.api.specs.declared.bad.BadWhy.TheVariants as why
use Rattle.ports.specs.declared.stop.Stop.TheVariants as stop
use Rattle.api.specs.declared.ask.AskEnd.TheVariants.{Closed}
use Rattle.api.specs.Stages.{cut_off, refusal}
use Rattle.api.proofs.head.cut_off.Goals as goal

none : (bytes : List ℕ) → (length bytes == 0) ≡ true → stop.Why Closed ≡ cut_off bytes
none [] e = refl
none (b ∷ bytes) e = (let z = eqb-true (length (b ∷ bytes)) 0 e in absurd (omega arith))

some : (bytes : List ℕ) → (length bytes == 0) ≡ false → refusal why.Head ≡ cut_off bytes
some [] e = cc
some (b ∷ bytes) e = refl

pub returns-then-is_empty : goal.returns-then-is_empty
returns-then-is_empty c = none c.args.bytes.now (sym c.is_empty.ensures ∙ c.if-is_empty.true)

pub returns-else-is_empty : goal.returns-else-is_empty
returns-else-is_empty c = c.refused.ensures ∙ some c.args.bytes.now (sym c.is_empty.ensures ∙ c.if-is_empty.false)

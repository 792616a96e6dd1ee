-- What a take leaves where there is no memory for what it gave.
use Rattle.std.proofs.Common.{◌≡◌, ◌∙◌, ℕ, List, sym, ap, subst}
use Rattle.std.specs.Prelude.{Option, Result, Err, IsErrAnd}
use Rattle.std.proofs.lemmas.Result.{err_from_is_err_and}
use Rattle.ports.specs.declared.stop.Stop.{Stop}
use Rattle.ports.specs.declared.stop.Stop.TheVariants as stop
use Rattle.ports.specs.Taken.{Gave}
use Rattle.api.specs.declared.ask.AskEnd.{AskEnd}
use Rattle.api.specs.Stages.{TakesMore}

pub no_memory : (old new : Option (List ℕ)) (before bytes got : List ℕ) (most : ℕ) (r : Result ℕ (Stop AskEnd))
    → Gave old new got → IsErrAnd r (λ e. e ≡ stop.NoMemory) → TakesMore old new before bytes most r
no_memory old new before bytes got most r gave is =
    let p = err_from_is_err_and r is in
    subst (λ x. TakesMore old new before bytes most x) (sym (p.1 ∙ ap Err p.2)) (got, gave, tt)

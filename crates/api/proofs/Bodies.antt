-- How a body fills.
use Rattle.std.proofs.Common.{◌≡◌, ◌∙◌, ℕ, List, ◌++◌, sym, ap, subst, inl}
use Rattle.std.specs.Prelude.{Option, Result, Err, IsErrAnd}
use Rattle.std.proofs.lemmas.Result.{err_from_is_err_and}
use Rattle.ports.specs.declared.stop.Stop.{Stop}
use Rattle.ports.specs.Taken.{Gave}
use Rattle.api.specs.declared.ask.AskEnd.{AskEnd}
use Rattle.api.specs.Stages.{IsFault, IsFilled, ReadsBody}
use Rattle.ports.proofs.callers.Taken.{gave_more}

pub body_fails : (old mid new : Option (List ℕ)) (behind : List ℕ) (len : ℕ) (body : List ℕ) (end : Stop AskEnd) (r : Result (List ℕ) (Stop AskEnd))
    → IsFilled old mid behind len body → ((got : List ℕ) × Gave mid new got × IsFault end) → IsErrAnd r (λ e. e ≡ end) → ReadsBody old new behind len r
body_fails old mid new behind len body end r f h is =
    let p = err_from_is_err_and r is in
    subst (λ x. ReadsBody old new behind len x) (sym (p.1 ∙ ap Err p.2)) (inl (f.more ++ h.0, gave_more old mid new f.more h.0 f.gave h.1, h.2))

-- What a run means where the words name a path or a port.
use Rattle.std.proofs.Common.{◌≡◌, ℕ, List, sym, ap, subst, ◌∙◌}
use Rattle.std.specs.Prelude.{Option, Some, None}
use Rattle.std.specs.Borrow.{Bor}
use Rattle.words.specs.Tasks.{task_of}
use Rattle.words.specs.declared.ask.Ask.{Ask}
use Rattle.words.specs.declared.ask.Ask.TheVariants as ask
use Rattle.oriedit.specs.Outside.{Outside}
use Rattle.oriedit.specs.Attaching.{Attached, Scripts, Serves}
use Rattle.oriedit.specs.Run.{Means}
use Rattle.oriedit.specs.declared.status.Status.{Status}

module _ (a : Ask) (keep : Option (Bor (List ℕ))) (old : Outside) (clean : Type 0) (new : Outside) (s : Status) where
  -- a script whose keeper is attached at a path
  pub means_script : (path : Bor (List ℕ)) → a ≡ ask.Script keep → keep ≡ Some path
      → Attached (Some path.now) (Scripts clean) old clean new s → Means (task_of a) old clean new s
  means_script path i k h = subst (λ b. Means (task_of b) old clean new s) (sym (i ∙ ap (λ o. ask.Script o) k)) h

  -- connections at a port
  pub means_serve : (port most : ℕ) → a ≡ ask.Serve port most keep → keep ≡ None
      → Serves port most clean old new s → Means (task_of a) old clean new s
  means_serve port most i k h =
      subst (λ b. Means (task_of b) old clean new s) (sym (i ∙ ap (λ o. ask.Serve port most o) k)) h

  -- connections at a port, once the keeper is attached at a path
  pub means_kept_serve : (port most : ℕ) (path : Bor (List ℕ)) → a ≡ ask.Serve port most keep → keep ≡ Some path
      → Attached (Some path.now) (Serves port most clean) old clean new s → Means (task_of a) old clean new s
  means_kept_serve port most path i k h =
      subst (λ b. Means (task_of b) old clean new s) (sym (i ∙ ap (λ o. ask.Serve port most o) k)) h

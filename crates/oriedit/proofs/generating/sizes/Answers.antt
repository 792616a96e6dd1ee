use Rattle.std.proofs.Common.{◌≡◌, sym, subst, ap, ◌∙◌}
use Rattle.std.specs.Prelude.{Err}
use Rattle.std.proofs.lemmas.Result.{err_from_is_err_and}
use Rattle.dialogue.specs.declared.command.Command.TheVariants as command
use Rattle.oriedit.specs.Summary.{sizes_told}
use Rattle.oriedit.specs.Generating.{Framing}
use Rattle.oriedit.specs.Counting.{Learns}
use Rattle.oriedit.proofs.Stepping.{named}
use Rattle.oriedit.proofs.generating.sizes.Goals as goal

pub returns-in_err-reply-clause-sizes : goal.returns-in_err-reply-clause-sizes
returns-in_err-reply-clause-sizes g c =
    let p = err_from_is_err_and c.from_residual.result c.from_residual.ensures.1 in
    subst (Learns _ _ _ _ _) (sym (p.1 ∙ ap Err p.2)) (c.in_err-reply.ensures.reply Framing)

pub returns-clause-sizes : goal.returns-clause-sizes
returns-clause-sizes g c =
    let h = c.in_ok-reply.ensures.reply Framing in (
      h.0,
      named (λ n. command.Show n) Framing _ _ h.0 _ _ _ (c.copy.ensures.same ∙ c.requires) h.1,
      subst (λ r. c.sizes_told.result ≡ sizes_told r) h.2 c.sizes_told.ensures,
    )

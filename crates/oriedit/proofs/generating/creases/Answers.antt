use Rattle.std.proofs.Common.{◌≡◌, sym, subst, ap, ◌∙◌}
use Rattle.std.specs.Prelude.{Err}
use Rattle.std.proofs.lemmas.Result.{err_from_is_err_and}
use Rattle.dialogue.specs.declared.command.Command.TheVariants as command
use Rattle.oriedit.specs.Summary.{creases_told}
use Rattle.oriedit.specs.Generating.{Framing}
use Rattle.oriedit.specs.Counting.{Learns}
use Rattle.oriedit.proofs.Stepping.{named}
use Rattle.oriedit.proofs.generating.creases.Goals as goal

pub returns-in_err-reply-clause-creases : goal.returns-in_err-reply-clause-creases
returns-in_err-reply-clause-creases g c =
    let p = err_from_is_err_and c.from_residual.result c.from_residual.ensures.1 in
    subst (Learns _ _ _ _ _) (sym (p.1 ∙ ap Err p.2)) (c.in_err-reply.ensures.reply Framing)

pub returns-clause-creases : goal.returns-clause-creases
returns-clause-creases g c =
    let h = c.in_ok-reply.ensures.reply Framing in (
      h.0,
      named (λ n. command.PatternText n) Framing _ _ h.0 _ _ _ (c.copy.ensures.same ∙ c.requires) h.1,
      subst (λ r. c.creases_told.result ≡ creases_told r) h.2 c.creases_told.ensures,
    )

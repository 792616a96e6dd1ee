use Rattle.std.proofs.Common.{◌≡◌, sym, subst, ap, ◌∙◌}
use Rattle.std.specs.Prelude.{Err}
use Rattle.std.proofs.lemmas.Result.{err_from_is_err_and}
use Rattle.dialogue.specs.declared.command.Command.TheVariants as command
use Rattle.oriedit.specs.Summary.{plus, of_question}
use Rattle.oriedit.specs.Generating.{Asking}
use Rattle.oriedit.specs.Counting.{Learns}
use Rattle.oriedit.proofs.Stepping.{named}
use Rattle.oriedit.proofs.generating.questioned.Goals as goal

pub returns-in_err-reply-clause-question : goal.returns-in_err-reply-clause-question
returns-in_err-reply-clause-question g c =
    let p = err_from_is_err_and c.from_residual.result c.from_residual.ensures.1 in
    subst (Learns _ _ _ _ _) (sym (p.1 ∙ ap Err p.2)) (c.in_err-reply.ensures.reply Asking)

pub returns-clause-question : goal.returns-clause-question
returns-clause-question g c =
    let h = c.in_ok-reply.ensures.reply Asking in (
      h.0,
      named (λ n. command.Faults n) Asking _ _ h.0 _ _ _ (c.copy.ensures.same ∙ c.requires.name) h.1,
      subst (λ r. c.with_question.result ≡ plus c.args.tally (of_question r)) h.2 c.with_question.ensures.sum,
    )

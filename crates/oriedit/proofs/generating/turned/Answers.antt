use Rattle.std.proofs.Common.{◌≡◌, sym, subst, ap, ◌∙◌}
use Rattle.std.specs.Prelude.{Err}
use Rattle.std.proofs.lemmas.Result.{err_from_is_err_and}
use Rattle.oriedit.specs.Summary.{plus, of_turn}
use Rattle.oriedit.specs.Generating.{Turning}
use Rattle.oriedit.specs.Counting.{Learns}
use Rattle.oriedit.proofs.generating.turned.Goals as goal

pub returns-in_err-reply-clause-turn : goal.returns-in_err-reply-clause-turn
returns-in_err-reply-clause-turn g c =
    let p = err_from_is_err_and c.from_residual.result c.from_residual.ensures.1 in
    subst (Learns _ _ _ _ _) (sym (p.1 ∙ ap Err p.2)) (c.in_err-reply.ensures.reply Turning)

pub returns-clause-turn : goal.returns-clause-turn
returns-clause-turn g c =
    let h = c.in_ok-reply.ensures.reply Turning in
    (h.0, h.1, subst (λ r. c.with_turn.result ≡ plus c.args.tally (of_turn r)) h.2 c.with_turn.ensures.sum)

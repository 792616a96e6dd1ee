use Rattle.std.proofs.lemmas.Result.{err_from_is_err_and}
use Rattle.commands.proofs.Steps.{then, wrong}
use Rattle.commands.proofs.asked.read_words.Goals as goal

pub returns-in_err-verb : goal.returns-in_err-verb
returns-in_err-verb c = let p = err_from_is_err_and c.from_residual.result c.from_residual.ensures.1 in
    rw (p.1, p.2) (wrong c.in_err-verb.ensures.wrong)

pub returns : goal.returns
returns c = then c.in_ok-verb.ensures.right c.command_of.ensures

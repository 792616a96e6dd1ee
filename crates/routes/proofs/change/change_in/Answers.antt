use Rattle.std.proofs.Common.{sym, ◌∙◌}
use Rattle.routes.proofs.Verbs.{change_word}
use Rattle.routes.proofs.change.change_in.Goals as goal

pub returns-else-is_change : goal.returns-else-is_change
returns-else-is_change c verb behind h =
    let w = (change_word c.args.command.now c.first_word.result.0.now c.first_word.result.1.now behind verb c.first_word.ensures h).0 in
    let yes = c.is_change.ensures.1 (verb, sym w, h.changes) in
    absurd (let e = sym c.if-is_change.false ∙ yes in cc)

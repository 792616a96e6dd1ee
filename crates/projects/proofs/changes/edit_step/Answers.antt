use Rattle.std.proofs.lemmas.Result.{err_from_is_err_and}
use Rattle.dialogue.specs.declared.command.Change.TheVariants as change
use Rattle.projects.specs.Changes.{Refuses, RefusesEdit}
use Rattle.projects.proofs.Changing.{ends_map, handed_on, edit_refuses}
use Rattle.projects.proofs.changes.edit_step.Goals as goal

pub returns-in_err-step-clause-err : goal.returns-in_err-step-clause-err
returns-in_err-step-clause-err c =
    let h = err_from_is_err_and c.from_residual.result c.from_residual.ensures.1 in
    handed_on c.from_residual.result (Refuses c.args.opened.now (change.Edit c.args.edit.now)) h.1 h.2
    (ends_map (RefusesEdit c.args.opened.now c.args.edit.now) (Refuses c.args.opened.now (change.Edit c.args.edit.now))
    (edit_refuses c.args.opened.now c.args.edit.now) c.in_err-step.field-0.0 c.in_err-step.ensures.err)

use Rattle.std.proofs.Common.{◌≡◌, subst}
use Rattle.std.specs.Prelude.{Some, Ok, Err}
use Rattle.std.proofs.lemmas.Result.{err_from_is_err_and}
use Rattle.dialogue.specs.declared.command.Command.{Command}
use Rattle.dialogue.specs.declared.command.Command.TheVariants as command
use Rattle.projects.specs.Tables.{Tables, project_at, IsCommitted}
use Rattle.projects.specs.Desk.{Does, Fetched}
use Rattle.projects.proofs.Answering.{tells_more, tells_on, does_end, ChangedOf, does_without, does_refuse, does_change}
use Rattle.projects.proofs.desk.change_project.Goals as goal

pub returns-in_err-project-clause-told : goal.returns-in_err-project-clause-told
returns-in_err-project-clause-told g c =
    let h = err_from_is_err_and c.from_residual.result c.from_residual.ensures.1 in
    let asked : Command = command.Change c.args.name.now c.args.given c.args.change.now in
    let e = c.in_err-project.field-0.0 in
    tells_more (g.K.Keeper.tables c.args.keeper.now) (g.K.Keeper.tables c.fetch_project.new.keeper) (g.K.Keeper.is_clean c.fetch_project.new.keeper)
    (λ before after. (after ≡ before) × Fetched before c.args.name.now (Err e))
    (λ before after. Does before asked c.from_residual.result after)
    (λ before after t. does_end before after asked c.from_residual.result h.1 h.2
    (does_without before after asked c.args.name.now (ChangedOf c.args.name.now c.args.given c.args.change.now) (λ entries answer u. u) e t.0 t.1))
    c.in_err-project.ensures.told

pub returns-in_err-ready-clause-told : goal.returns-in_err-ready-clause-told
returns-in_err-ready-clause-told g c =
    let h = err_from_is_err_and c.from_residual-in_err-ready.result c.from_residual-in_err-ready.ensures.1 in
    let asked : Command = command.Change c.args.name.now c.args.given c.args.change.now in
    let p = c.in_ok-project.project in
    tells_more (g.K.Keeper.tables c.args.keeper.now) (g.K.Keeper.tables c.fetch_project.new.keeper) (g.K.Keeper.is_clean c.fetch_project.new.keeper)
    (λ before after. (after ≡ before) × (project_at before c.args.name.now ≡ Some p))
    (λ before after. Does before asked c.from_residual-in_err-ready.result after)
    (λ before after t. does_end before after asked c.from_residual-in_err-ready.result h.1 h.2
    (does_refuse before after c.args.name.now c.args.given c.args.change.now p c.in_err-ready.field-0.0 t.0 t.1 c.in_err-ready.ensures.err))
    c.in_ok-project.ensures.told

pub returns-clause-told : goal.returns-clause-told
returns-clause-told g c =
    let asked : Command = command.Change c.args.name.now c.args.given c.args.change.now in
    let p = c.in_ok-project.project in
    tells_on (g.K.Keeper.tables c.args.keeper.now) (g.K.Keeper.tables c.fetch_project.new.keeper) (g.K.Keeper.tables c.commit.new.self)
    (g.K.Keeper.is_clean c.fetch_project.new.keeper) (g.K.Keeper.is_clean c.commit.new.self)
    (λ before after. (after ≡ before) × (project_at before c.args.name.now ≡ Some p))
    (λ before after. IsCommitted before c.args.name.now c.in_ok-ready.ready.step after)
    (λ before after. Does before asked (Ok c.in_ok-ready.ready.reply) after)
    (λ before between after t k. does_change before after c.args.name.now c.args.given c.args.change.now p c.in_ok-ready.ready t.1 c.in_ok-ready.ensures.ok
    (subst (λ (x : Tables). IsCommitted x c.args.name.now c.in_ok-ready.ready.step after) t.0 k))
    c.in_ok-project.ensures.told c.in_ok-commit.ensures.clean c.in_ok-commit.ensures.told

use Rattle.std.proofs.Common.{sym, subst}
use Rattle.std.specs.Prelude.{IfErr}
use Rattle.std.proofs.lemmas.Result.{err_from_is_err_and}
use Rattle.dialogue.specs.declared.command.Change.TheVariants as change
use Rattle.projects.specs.Projects.{ExactProject, IsProject}
use Rattle.projects.specs.Ends.{EndsBy}
use Rattle.projects.specs.Changes.{Refuses, IsUncutAfter}
use Rattle.projects.proofs.Stepping.{project_of, first_fits}
use Rattle.projects.proofs.Changing.{ends_map, handed_on, redo_uncut}
use Rattle.projects.proofs.changes.redo_step.Goals as goal

pub returns-in_err-next-clause-err : goal.returns-in_err-next-clause-err
returns-in_err-next-clause-err c =
    let h = err_from_is_err_and c.from_residual.result c.from_residual.ensures.1 in
    let p : ExactProject = project_of c.opened.inside.rev c.opened.inside.live c.opened.inside.history in
    let d = c.in-Some.first.now in
    let is : IsProject p = subst IsProject (sym c.opened.view_is) c.requires in
    subst (λ (x : ExactProject). IfErr c.from_residual.result (EndsBy (Refuses x change.Redo))) c.opened.view_is
    (handed_on c.from_residual.result (Refuses p change.Redo) h.1 h.2
    (ends_map (IsUncutAfter p.pattern d) (Refuses p change.Redo) (redo_uncut p d c.in-Some.ensures.some (first_fits p d is c.in-Some.ensures.some)) c.in_err-next.field-0.0 c.in_err-next.ensures.err))

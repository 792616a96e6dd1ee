use Rattle.std.proofs.Common.{◌≡◌, sym, subst, ap, ◌∙◌}
use Rattle.std.specs.Prelude.{IfErr}
use Rattle.std.proofs.lemmas.Result.{err_from_is_err_and}
use Rattle.pattern.specs.Deltas.{Fits, inverse_of}
use Rattle.pattern.specs.declared.delta.Delta.{Delta}
use Rattle.dialogue.specs.declared.command.Change.TheVariants as change
use Rattle.projects.specs.Projects.{ExactProject, IsProject}
use Rattle.projects.specs.Ends.{EndsBy}
use Rattle.projects.specs.Changes.{Refuses, IsUncutAfter}
use Rattle.projects.proofs.Stepping.{project_of, last_fits}
use Rattle.projects.proofs.Changing.{ends_map, handed_on, undo_uncut}
use Rattle.projects.proofs.changes.undo_step.Goals as goal

pub cut_after-requires : goal.cut_after-requires
cut_after-requires c = subst (λ (d : Delta). Fits c.opened.inside.live d) (sym (c.inverse-back.ensures ∙ ap inverse_of c.in_ok-copy.ensures))
    (last_fits (project_of c.opened.inside.rev c.opened.inside.live c.opened.inside.history) c.in-Some.last.now (subst IsProject (sym c.opened.view_is) c.requires) c.in-Some.ensures.some)

pub returns-in_err-next-clause-err : goal.returns-in_err-next-clause-err
returns-in_err-next-clause-err c =
    let h = err_from_is_err_and c.from_residual-in_err-next.result c.from_residual-in_err-next.ensures.1 in
    let p : ExactProject = project_of c.opened.inside.rev c.opened.inside.live c.opened.inside.history in
    let d = c.in-Some.last.now in
    let back = c.inverse-back.result in
    let inverse : back ≡ inverse_of d = c.inverse-back.ensures ∙ ap inverse_of c.in_ok-copy.ensures in
    let is : IsProject p = subst IsProject (sym c.opened.view_is) c.requires in
    let fits : Fits p.pattern back = subst (λ (x : Delta). Fits p.pattern x) (sym inverse) (last_fits p d is c.in-Some.ensures.some) in
    subst (λ (x : ExactProject). IfErr c.from_residual-in_err-next.result (EndsBy (Refuses x change.Undo))) c.opened.view_is
    (handed_on c.from_residual-in_err-next.result (Refuses p change.Undo) h.1 h.2
    (ends_map (IsUncutAfter p.pattern back) (Refuses p change.Undo) (undo_uncut p d back c.in-Some.ensures.some inverse fits) c.in_err-next.field-0.0 c.in_err-next.ensures.err))

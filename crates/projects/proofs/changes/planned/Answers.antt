use Rattle.std.proofs.Common.{subst}
use Rattle.std.specs.Prelude.{IfErr}
use Rattle.std.proofs.lemmas.Result.{err_from_is_err_and}
use Rattle.sheet.specs.Pattern.{ExactPattern}
use Rattle.ports.specs.Stops.{Refuses as RefusesPlan}
use Rattle.edits.specs.EditOf.{EditOf}
use Rattle.projects.specs.Projects.{ExactProject}
use Rattle.projects.specs.Ends.{EndsBy}
use Rattle.projects.specs.Changes.{PlansOn, RefusesEdit, IsUncutAfter}
use Rattle.projects.specs.declared.step.Step.TheVariants.{Do}
use Rattle.projects.proofs.Stepping.{project_of}
use Rattle.projects.proofs.Changing.{IsPlanned, planned, ends_map, handed_on, plan_ends, plan_on, plan_uncut}
use Rattle.projects.proofs.changes.planned.Goals as goal

pub returns-in_err-delta-clause-err : goal.returns-in_err-delta-clause-err
returns-in_err-delta-clause-err c =
    let h = err_from_is_err_and c.from_residual.result c.from_residual.ensures.1 in
    let p : ExactProject = project_of c.opened.inside.rev c.opened.inside.live c.opened.inside.history in
    let edit = c.args.edit.now in
    subst (λ (x : ExactProject). IfErr c.from_residual.result (EndsBy (RefusesEdit x edit))) c.opened.view_is
    (handed_on c.from_residual.result (RefusesEdit p edit) h.1 h.2
    (plan_ends p edit c.in_err-delta.field-0.0 (subst (λ (x : ExactPattern). RefusesPlan (EditOf x edit) c.in_err-delta.field-0.0) c.pattern.ensures.value c.in_err-delta.ensures.refused)))

pub returns-in_err-next-clause-err : goal.returns-in_err-next-clause-err
returns-in_err-next-clause-err c =
    let h = err_from_is_err_and c.from_residual-in_err-next.result c.from_residual-in_err-next.ensures.1 in
    let p : ExactProject = project_of c.opened.inside.rev c.opened.inside.live c.opened.inside.history in
    let edit = c.args.edit.now in
    let d = c.in_ok-delta.delta in
    let l = c.in_ok-delta.ensures.leads in
    let s : IsPlanned p.pattern edit d = planned c.pattern.result.now p.pattern edit d l.0 c.pattern.ensures.value c.in_ok-delta.ensures.fits l.1 l.2 in
    subst (λ (x : ExactProject). IfErr c.from_residual-in_err-next.result (EndsBy (RefusesEdit x edit))) c.opened.view_is
    (handed_on c.from_residual-in_err-next.result (RefusesEdit p edit) h.1 h.2
    (ends_map (IsUncutAfter p.pattern d) (RefusesEdit p edit) (plan_uncut p edit d s.new s.fits s.leads s.is) c.in_err-next.field-0.0 c.in_err-next.ensures.err))

pub returns-clause-ok : goal.returns-clause-ok
returns-clause-ok c =
    let p : ExactProject = project_of c.opened.inside.rev c.opened.inside.live c.opened.inside.history in
    let edit = c.args.edit.now in
    let d = c.in_ok-delta.delta in
    let l = c.in_ok-delta.ensures.leads in
    let s : IsPlanned p.pattern edit d = planned c.pattern.result.now p.pattern edit d l.0 c.pattern.ensures.value c.in_ok-delta.ensures.fits l.1 l.2 in
    subst (λ (x : ExactProject). PlansOn x edit (Do d) c.in_ok-next.next) c.opened.view_is (plan_on p edit d s.new c.in_ok-next.next s.fits s.leads s.is c.in_ok-next.ensures.ok)

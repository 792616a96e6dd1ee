use Rattle.std.proofs.Common.{◌+◌, ◌<◌, sym, subst}
use Rattle.projects.specs.Projects.{ExactProject, last_rev}
use Rattle.projects.specs.Steps.{Stepped, LeadsBack}
use Rattle.projects.specs.declared.step.Step.TheVariants.{Undo}
use Rattle.projects.proofs.Stepping.{project_of, undone_keeps, undone_steps}
use Rattle.projects.proofs.project.Project.undo.Goals as goal

pub invariant_of-self-2 : goal.invariant_of-self-2
invariant_of-self-2 c = undone_keeps (project_of c.self.inside.rev c.self.inside.pattern c.self.inside.history) c.in_ok-pattern.pattern c.back.new.self c.self.invariant
    (subst (λ (p : ExactProject). p.rev < last_rev) (sym c.self.view_is) c.requires.rev) c.in_ok-back.ensures.ok (subst (λ (p : ExactProject). LeadsBack p c.in_ok-pattern.pattern) (sym c.self.view_is) c.in_ok-pattern.ensures)

pub returns-clause-ok : goal.returns-clause-ok
returns-clause-ok c = subst (λ (p : ExactProject). Stepped p Undo (project_of (c.self.inside.rev + 1) c.in_ok-pattern.pattern c.back.new.self)) c.self.view_is
    (undone_steps (project_of c.self.inside.rev c.self.inside.pattern c.self.inside.history) c.in_ok-pattern.pattern c.back.new.self c.in_ok-back.ensures.ok (subst (λ (p : ExactProject). LeadsBack p c.in_ok-pattern.pattern) (sym c.self.view_is) c.in_ok-pattern.ensures))

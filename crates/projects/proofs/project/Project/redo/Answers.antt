use Rattle.std.proofs.Common.{◌+◌, ◌<◌, sym, subst}
use Rattle.projects.specs.Projects.{ExactProject, last_rev}
use Rattle.projects.specs.Steps.{Stepped, LeadsForth}
use Rattle.projects.specs.declared.step.Step.TheVariants.{Redo}
use Rattle.projects.proofs.Stepping.{project_of, redone_keeps, redone_steps}
use Rattle.projects.proofs.project.Project.redo.Goals as goal

pub invariant_of-self-2 : goal.invariant_of-self-2
invariant_of-self-2 c = redone_keeps (project_of c.self.inside.rev c.self.inside.pattern c.self.inside.history) c.in_ok-pattern.pattern c.forth.new.self c.self.invariant
    (subst (λ (p : ExactProject). p.rev < last_rev) (sym c.self.view_is) c.requires.rev) c.in_ok-forth.ensures.ok (subst (λ (p : ExactProject). LeadsForth p c.in_ok-pattern.pattern) (sym c.self.view_is) c.in_ok-pattern.ensures)

pub returns-clause-ok : goal.returns-clause-ok
returns-clause-ok c = subst (λ (p : ExactProject). Stepped p Redo (project_of (c.self.inside.rev + 1) c.in_ok-pattern.pattern c.forth.new.self)) c.self.view_is
    (redone_steps (project_of c.self.inside.rev c.self.inside.pattern c.self.inside.history) c.in_ok-pattern.pattern c.forth.new.self c.in_ok-forth.ensures.ok (subst (λ (p : ExactProject). LeadsForth p c.in_ok-pattern.pattern) (sym c.self.view_is) c.in_ok-pattern.ensures))

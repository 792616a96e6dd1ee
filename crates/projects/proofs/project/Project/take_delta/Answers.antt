use Rattle.std.proofs.Common.{◌<◌, sym, subst, ap, ◌∙◌}
use Rattle.pattern.specs.Deltas.{Fits}
use Rattle.pattern.specs.declared.delta.Delta.{Delta}
use Rattle.history.specs.Histories.{pushed}
use Rattle.projects.specs.Projects.{ExactProject, last_rev}
use Rattle.projects.proofs.Stepping.{project_of, done_keeps}
use Rattle.projects.proofs.project.Project.take_delta.Goals as goal

pub invariant_of-self-2 : goal.invariant_of-self-2
invariant_of-self-2 c = done_keeps (project_of c.self.inside.rev c.self.inside.pattern c.self.inside.history) c.args.delta.now c.in_ok-pattern.pattern c.push.new.self c.self.invariant
    (subst (λ (p : ExactProject). p.rev < last_rev) (sym c.self.view_is) c.requires.rev) (subst (λ (p : ExactProject). Fits p.pattern c.args.delta.now) (sym c.self.view_is) c.requires.fits)
    c.in_ok-pattern.ensures (c.in_ok-push.ensures.ok ∙ ap (λ (d : Delta). pushed c.self.inside.history d) c.in_ok-copy.ensures)

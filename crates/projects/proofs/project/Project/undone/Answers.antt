use Rattle.std.proofs.Common.{sym, subst, ap, ◌∙◌}
use Rattle.pattern.specs.Deltas.{Fits, inverse_of}
use Rattle.pattern.specs.declared.delta.Delta.{Delta}
use Rattle.projects.proofs.Stepping.{project_of, last_fits}
use Rattle.projects.proofs.project.Project.undone.Goals as goal

pub applied-requires : goal.applied-requires
applied-requires c = subst (λ (d : Delta). Fits c.self.inside.pattern d) (sym (c.inverse-inverse.ensures ∙ ap inverse_of c.in_ok-copy.ensures))
    (last_fits (project_of c.self.inside.rev c.self.inside.pattern c.self.inside.history) c.in-Some.last.now c.self.invariant c.in-Some.ensures.some)

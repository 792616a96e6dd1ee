use Rattle.std.proofs.Common.{sym, subst}
use Rattle.std.specs.Prelude.{IfOk, IfErr}
use Rattle.subdivide.specs.Live.{IsCut}
use Rattle.projects.specs.Projects.{ExactProject, IsProject}
use Rattle.projects.specs.Ends.{EndsBy}
use Rattle.projects.specs.Changes.{MakesStep, RefusesChange}
use Rattle.projects.proofs.changes.step_of.Goals as goal

pub tested_step-ready-requires-clause-is : goal.tested_step-ready-requires-clause-is
tested_step-ready-requires-clause-is c = subst IsProject (sym c.in_ok-opened.ensures.ok) c.in_ok-opened.ensures.is

pub tested_step-ready-requires-clause-cut : goal.tested_step-ready-requires-clause-cut
tested_step-ready-requires-clause-cut c = subst (λ (x : ExactProject). IsCut x.pattern) (sym c.in_ok-opened.ensures.ok) c.in_ok-opened.ensures.cut

pub returns-clause-ok : goal.returns-clause-ok
returns-clause-ok c =
    subst (λ (x : ExactProject). IfOk c.tested_step-ready.result (MakesStep x c.args.given c.args.change.now)) c.in_ok-opened.ensures.ok c.tested_step-ready.ensures.ok

pub returns-clause-err : goal.returns-clause-err
returns-clause-err c =
    subst (λ (x : ExactProject). IfErr c.tested_step-ready.result (EndsBy (RefusesChange x c.args.given c.args.change.now))) c.in_ok-opened.ensures.ok c.tested_step-ready.ensures.err

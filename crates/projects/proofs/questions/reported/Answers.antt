use Rattle.std.proofs.Common.{◌∙◌}
use Rattle.projects.proofs.Stepping.{project_of}
use Rattle.projects.proofs.Asking.{reports, reports_none}
use Rattle.projects.proofs.questions.reported.Goals as goal

pub returns-in-Some-clause-answers : goal.returns-in-Some-clause-answers
returns-in-Some-clause-answers c = reports (project_of c.opened.inside.rev c.opened.inside.judged c.opened.inside.history) c.args.project c.args.at.now c.in-Some.report
    (c.opened.view_is ∙ c.in_ok-opened.ensures.ok) c.in_ok-opened.ensures.cut c.in-Some.ensures

pub returns-clause-answers : goal.returns-clause-answers
returns-clause-answers c = reports_none (project_of c.opened.inside.rev c.opened.inside.judged c.opened.inside.history) c.args.project c.args.at.now
    (c.opened.view_is ∙ c.in_ok-opened.ensures.ok) c.in_ok-opened.ensures.cut c.in-None.ensures

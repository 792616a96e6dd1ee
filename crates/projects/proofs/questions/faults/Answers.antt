use Rattle.std.proofs.Common.{◌∙◌, sym, subst}
use Rattle.judge.specs.Faults.{AreFaults}
use Rattle.projects.proofs.Stepping.{project_of}
use Rattle.projects.proofs.Asking.{lists}
use Rattle.projects.proofs.questions.faults.Goals as goal

pub returns-clause-answers : goal.returns-clause-answers
returns-clause-answers c = lists (project_of c.opened.inside.rev c.opened.inside.judged c.opened.inside.history) c.args.project c.new-2.result
    (c.opened.view_is ∙ c.in_ok-opened.ensures.ok) c.in_ok-opened.ensures.cut
    (subst (AreFaults c.opened.inside.judged) (sym (c.new-2.ensures ∙ c.in_ok-list.ensures.items)) c.faults.ensures.faults)

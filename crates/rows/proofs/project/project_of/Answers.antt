use Rattle.rows.specs.Reading.{IsPatternOf, IsHistoryOf}
use Rattle.projects.proofs.Callers.{some_gives}
use Rattle.rows.proofs.OneProject.{none_made}
use Rattle.rows.proofs.project.project_of.Goals as goal

pub returns-clause-none : goal.returns-clause-none
returns-clause-none c = none_made c.args.row.now c.args.sheet c.args.creases.now c.args.steps.now c.in-Some.sheet c.in-Some-2.pattern c.in-Some-3.history c.new.result c.in-Some.ensures.some
    (some_gives (IsPatternOf c.in-Some.sheet c.args.creases.now) _ c.in-Some-2.pattern c.in-Some-2.is c.in_ok-pattern.ensures.some)
    (some_gives (IsHistoryOf c.args.row.now c.args.steps.now) _ c.in-Some-3.history c.in-Some-3.is c.in_ok-history.ensures.some)
    c.new.ensures.exactly

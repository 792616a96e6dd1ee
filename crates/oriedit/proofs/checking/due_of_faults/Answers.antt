use Rattle.std.proofs.Common.{rules, subst, sym}
use Rattle.ports.specs.Stops.{Refuses}
use Rattle.subdivide.specs.CutAnswers.{IsCutAnswer}
use Rattle.oriedit.specs.CheckText.{FaultsText}
use Rattle.oriedit.specs.Dues.{text_of}
use Rattle.oriedit.proofs.Ending.{faults_refused, refused_so}
use Rattle.oriedit.proofs.checking.due_of_faults.Goals as goal

pub returns-in_ok-due_of_judged-in-Ok : goal.returns-in_ok-due_of_judged-in-Ok
returns-in_ok-due_of_judged-in-Ok c =
    let due = c.in_ok-due_of_judged-in-Ok.field-0 in
    subst (λ p. FaultsText p due.status (text_of due.text)) c.in-Ok.ensures.ok c.in_ok-due_of_judged-in-Ok.ensures

pub returns-in-Err-Why : goal.returns-in-Err-Why
returns-in-Err-Why c =
    subst (λ s. FaultsText c.args.pattern s (text_of c.refused.result.text)) (sym c.refused.ensures.status)
    (faults_refused c.args.pattern c.in-Err-Why.bad (subst (Refuses (IsCutAnswer c.args.pattern)) c.in-Err-Why.field-0-is c.in-Err-Why.ensures.err)
    (text_of c.refused.result.text) (refused_so c.in-Err-Why.bad c.refused.result.text (search rules)))

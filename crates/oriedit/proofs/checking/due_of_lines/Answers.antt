use Rattle.std.proofs.Common.{subst}
use Rattle.std.specs.Prelude.{Ok, Err}
use Rattle.ports.specs.Stops.{Refuses}
use Rattle.edits.specs.EditOf.{EditOf}
use Rattle.edits.specs.declared.edit.Edit.TheVariants as edit
use Rattle.oriedit.specs.CheckText.{FaultsText, DrawnText, LinesText}
use Rattle.oriedit.specs.Dues.{text_of}
use Rattle.oriedit.proofs.Ending.{given}
use Rattle.oriedit.proofs.checking.due_of_lines.Goals as goal

pub returns-in-Ok : goal.returns-in-Ok
returns-in-Ok c =
    given (λ due. FaultsText c.in-Ok.pattern due.status (text_of due.text)) (λ due. LinesText c.args.sheet.now c.args.lines due.status (text_of due.text)) c.due_of_faults.result
    (λ due h. (Ok c.in-Ok.pattern, subst (λ p. EditOf p (edit.Lines c.args.lines) (Ok c.in-Ok.pattern)) c.empty-empty.ensures c.in-Ok.ensures, h)) c.due_of_faults.ensures

pub returns-in-Err-Why : goal.returns-in-Err-Why
returns-in-Err-Why c =
    let refuses = subst (Refuses (EditOf c.empty-empty.result (edit.Lines c.args.lines))) c.in-Err-Why.field-0-is c.in-Err-Why.ensures in
    given (λ due. DrawnText c.args.sheet.now (Err c.in-Err-Why.bad) due.status (text_of due.text)) (λ due. LinesText c.args.sheet.now c.args.lines due.status (text_of due.text)) c.due_undrawn.result
    (λ due h. (Err c.in-Err-Why.bad, subst (λ p. EditOf p (edit.Lines c.args.lines) (Err c.in-Err-Why.bad)) c.empty-empty.ensures refuses, h)) c.due_undrawn.ensures

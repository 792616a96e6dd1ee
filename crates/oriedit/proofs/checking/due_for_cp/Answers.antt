use Rattle.std.proofs.Common.{rules, subst}
use Rattle.std.specs.Prelude.{Ok, Err}
use Rattle.ports.specs.Stops.{Refuses}
use Rattle.cpfile.specs.CpReading.{ReadsCp}
use Rattle.oriedit.specs.CheckText.{CheckText, LinesText}
use Rattle.oriedit.specs.Dues.{text_of}
use Rattle.oriedit.proofs.Ending.{given, cp_refused}
use Rattle.oriedit.proofs.checking.due_for_cp.Goals as goal

pub returns-in-Ok : goal.returns-in-Ok
returns-in-Ok c =
    given (λ due. LinesText c.args.sheet.now c.in-Ok.read.lines due.status (text_of due.text)) (λ due. CheckText c.args.lattice.now c.args.sheet.now c.args.bytes.now due.status (text_of due.text)) c.due_of_lines.result
    (λ due h. (Ok c.in-Ok.read, c.in-Ok.ensures, h)) c.due_of_lines.ensures

pub returns-in-Err-Why : goal.returns-in-Err-Why
returns-in-Err-Why c = (
  Err c.in-Err-Why.bad,
  subst (Refuses (ReadsCp c.args.lattice.now c.args.sheet.now c.args.bytes.now)) c.in-Err-Why.field-0-is c.in-Err-Why.ensures,
  (c.refused.ensures.status, cp_refused c.in-Err-Why.bad c.refused.result.text (search rules)),
)

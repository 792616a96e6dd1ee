use Rattle.oriedit.specs.CutText.{CutText}
use Rattle.oriedit.specs.Dues.{text_of}
use Rattle.oriedit.proofs.Ending.{answered, cut_due}
use Rattle.oriedit.proofs.cutting.cut.Goals as goal

pub returns-in-Ok-clause-bytes : goal.returns-in-Ok-clause-bytes
returns-in-Ok-clause-bytes g c =
    answered CutText c.args.bytes.now (text_of c.in-Ok.due.text) (g.W.Sink.held c.args.sink.now) (g.W.Sink.held c.written.new.sink) c.in-Ok.due.status c.written.result
    (cut_due c.args.bytes.now (text_of c.in-Ok.due.text) c.in-Ok.due.status c.in-Ok.ensures) c.in-Ok.ensures c.written.ensures.bytes

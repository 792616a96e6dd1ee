use Rattle.commands.specs.ReplyText.{fault_head, why_end}
use Rattle.commands.proofs.Blocks.{adds_cut, adds_more}
use Rattle.commands.proofs.report.FaultWritten.add_to.Goals as goal

pub returns-in_err-add_fault_head-clause-bytes : goal.returns-in_err-add_fault_head-clause-bytes
returns-in_err-add_fault_head-clause-bytes g c =
    adds_cut _ _ _ _ (fault_head c.args.self.now) (why_end c.args.self.now.why) _ c.in_err-add_fault_head.ensures.bytes c.from_residual.ensures.0

pub returns-clause-bytes : goal.returns-clause-bytes
returns-clause-bytes g c = adds_more _ _ _ _ _ _ (fault_head c.args.self.now) (why_end c.args.self.now.why) _ c.in_ok-add_fault_head.ensures.bytes c.add_why_end.ensures.bytes

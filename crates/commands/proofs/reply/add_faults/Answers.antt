use Rattle.std.proofs.Common.{length}
use Rattle.std.specs.Prelude.{codes}
use Rattle.commands.specs.ReplyText.{counted_line, fault_lines}
use Rattle.commands.proofs.Blocks.{adds_cut}
use Rattle.commands.proofs.reply.add_faults.Goals as goal

pub returns-in_err-add_counted-clause-bytes : goal.returns-in_err-add_counted-clause-bytes
returns-in_err-add_counted-clause-bytes g c =
    adds_cut _ _ _ _ (counted_line (codes "faults") c.args.rev (length c.args.list.now)) (fault_lines c.args.list.now) _ c.in_err-add_counted.ensures.bytes c.from_residual.ensures.0

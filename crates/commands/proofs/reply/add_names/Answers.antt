use Rattle.std.proofs.Common.{length}
use Rattle.std.specs.Prelude.{codes}
use Rattle.commands.specs.ReplyText.{numbered_line, name_lines}
use Rattle.commands.proofs.Blocks.{adds_cut}
use Rattle.commands.proofs.reply.add_names.Goals as goal

pub returns-in_err-add_numbered-clause-bytes : goal.returns-in_err-add_numbered-clause-bytes
returns-in_err-add_numbered-clause-bytes g c =
    adds_cut _ _ _ _ (numbered_line (codes "names") (length c.args.names.now)) (name_lines c.args.names.now) _ c.in_err-add_numbered.ensures.bytes c.from_residual.ensures.0

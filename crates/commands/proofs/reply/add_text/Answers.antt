use Rattle.std.specs.Prelude.{codes}
use Rattle.commands.specs.ReplyText.{numbered_line, line_count}
use Rattle.commands.proofs.Blocks.{adds_cut}
use Rattle.commands.proofs.reply.add_text.Goals as goal

pub returns-in_err-add_text_line-clause-bytes : goal.returns-in_err-add_text_line-clause-bytes
returns-in_err-add_text_line-clause-bytes g c =
    adds_cut _ _ _ _ (numbered_line (codes "text") (line_count c.args.text.now)) (c.args.text.now) _ c.in_err-add_text_line.ensures.bytes c.from_residual.ensures.0

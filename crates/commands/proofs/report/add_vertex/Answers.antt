use Rattle.commands.specs.ReplyText.{vertex_head, report_end}
use Rattle.commands.proofs.Blocks.{adds_cut, adds_more}
use Rattle.commands.proofs.report.add_vertex.Goals as goal

pub returns-in_err-add_vertex_head-clause-bytes : goal.returns-in_err-add_vertex_head-clause-bytes
returns-in_err-add_vertex_head-clause-bytes g c =
    adds_cut _ _ _ _ (vertex_head c.args.at.now) (report_end c.args.report.now) _ c.in_err-add_vertex_head.ensures.bytes c.from_residual.ensures.0

pub returns-clause-bytes : goal.returns-clause-bytes
returns-clause-bytes g c = adds_more _ _ _ _ _ _ (vertex_head c.args.at.now) (report_end c.args.report.now) _ c.in_ok-add_vertex_head.ensures.bytes c.add_report_end.ensures.bytes

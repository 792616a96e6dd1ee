use Rattle.std.proofs.Common.{◌++◌, length}
use Rattle.commands.specs.ReplyText.{shown_line, vertex_lines, edge_lines}
use Rattle.commands.proofs.Blocks.{adds_cut, adds_cut_later, adds_more}
use Rattle.commands.proofs.reply.add_shown.Goals as goal

pub returns-in_err-add_shown_line-clause-bytes : goal.returns-in_err-add_shown_line-clause-bytes
returns-in_err-add_shown_line-clause-bytes g c =
    adds_cut _ _ _ _ (shown_line c.args.rev (length c.args.cut.now.vertices) (length c.args.cut.now.edges)) (vertex_lines c.args.cut.now.vertices ++ edge_lines c.args.cut.now.edges) _ c.in_err-add_shown_line.ensures.bytes c.from_residual.ensures.0

pub returns-in_err-add_vertices-clause-bytes : goal.returns-in_err-add_vertices-clause-bytes
returns-in_err-add_vertices-clause-bytes g c =
    adds_cut_later _ _ _ _ _ _ (shown_line c.args.rev (length c.args.cut.now.vertices) (length c.args.cut.now.edges)) (vertex_lines c.args.cut.now.vertices) (edge_lines c.args.cut.now.edges) _
    c.in_ok-add_shown_line.ensures.bytes c.in_err-add_vertices.ensures.bytes c.from_residual-in_err-add_vertices.ensures.0

pub returns-clause-bytes : goal.returns-clause-bytes
returns-clause-bytes g c =
    adds_more _ _ _ _ _ _ (shown_line c.args.rev (length c.args.cut.now.vertices) (length c.args.cut.now.edges)) (vertex_lines c.args.cut.now.vertices ++ edge_lines c.args.cut.now.edges) _ c.in_ok-add_shown_line.ensures.bytes
    (adds_more _ _ _ _ _ _ (vertex_lines c.args.cut.now.vertices) (edge_lines c.args.cut.now.edges) _ c.in_ok-add_vertices.ensures.bytes c.add_edges.ensures.bytes)

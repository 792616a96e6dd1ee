use Rattle.std.proofs.Common.{◌++◌}
use Rattle.std.specs.Prelude.{codes}
use Rattle.commands.specs.ReplyText.{rays_text, verdict_end}
use Rattle.commands.proofs.Blocks.{adds_cut, adds_cut_later}
use Rattle.commands.proofs.report.add_judged.Goals as goal

pub returns-in_err-add-clause-bytes : goal.returns-in_err-add-clause-bytes
returns-in_err-add-clause-bytes g c =
    adds_cut _ _ _ _ (codes "rays") (rays_text c.args.rays.now ++ verdict_end c.args.verdict.now) _ c.in_err-add.ensures.bytes c.from_residual.ensures.0

pub returns-in_err-add_each-clause-bytes : goal.returns-in_err-add_each-clause-bytes
returns-in_err-add_each-clause-bytes g c =
    adds_cut_later _ _ _ _ _ _ (codes "rays") (rays_text c.args.rays.now) (verdict_end c.args.verdict.now) _
    c.in_ok-add.ensures.bytes c.in_err-add_each.ensures.bytes c.from_residual-in_err-add_each.ensures.0

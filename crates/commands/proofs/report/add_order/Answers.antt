use Rattle.std.proofs.Common.{◌++◌, ◌∷◌, []}
use Rattle.std.specs.Prelude.{codes}
use Rattle.commands.specs.ReplyText.{order_text}
use Rattle.commands.proofs.Blocks.{adds_cut, adds_cut_later, adds_more}
use Rattle.commands.proofs.report.add_order.Goals as goal

pub returns-in_err-add-clause-bytes : goal.returns-in_err-add-clause-bytes
returns-in_err-add-clause-bytes g c =
    adds_cut _ _ _ _ (codes " passed") (order_text c.args.numbers.now ++ 10 ∷ []) _ c.in_err-add.ensures.bytes c.from_residual.ensures.0

pub returns-in_err-add_each-clause-bytes : goal.returns-in_err-add_each-clause-bytes
returns-in_err-add_each-clause-bytes g c =
    adds_cut_later _ _ _ _ _ _ (codes " passed") (order_text c.args.numbers.now) (10 ∷ []) _
    c.in_ok-add.ensures.bytes c.in_err-add_each.ensures.bytes c.from_residual-in_err-add_each.ensures.0

pub returns-clause-bytes : goal.returns-clause-bytes
returns-clause-bytes g c =
    adds_more _ _ _ _ _ _ (codes " passed") (order_text c.args.numbers.now ++ 10 ∷ []) _ c.in_ok-add.ensures.bytes
    (adds_more _ _ _ _ _ _ (order_text c.args.numbers.now) (10 ∷ []) _ c.in_ok-add_each.ensures.bytes c.add-2.ensures.bytes)

use Rattle.std.proofs.Common.{◌++◌, ◌∷◌, []}
use Rattle.commands.specs.ReplyText.{why_word, why_end}
use Rattle.commands.proofs.Blocks.{adds_cut}
use Rattle.commands.proofs.report.add_failure.Goals as goal

pub returns-in_err-add_failure_word-clause-bytes : goal.returns-in_err-add_failure_word-clause-bytes
returns-in_err-add_failure_word-clause-bytes g c =
    adds_cut _ _ _ _ (32 ∷ (why_word c.args.why.now ++ 32 ∷ [])) (why_end c.args.why.now) _ c.in_err-add_failure_word.ensures.bytes c.from_residual.ensures.0

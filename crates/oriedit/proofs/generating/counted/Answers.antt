use Rattle.std.proofs.Common.{◌%◌}
use Rattle.oriedit.specs.Generating.{asked, Turning}
use Rattle.oriedit.proofs.Stepping.{counted_question}
use Rattle.oriedit.proofs.generating.counted.Goals as goal

pub returns-then-n-eq0-clause-turn : goal.returns-then-n-eq0-clause-turn
returns-then-n-eq0-clause-turn g c =
    let h = c.in_ok-tally.ensures.turn in
    counted_question (c.args.n % 16) (asked Turning c.args.command) h.0 c.args.tally c.in_ok-tally.tally _ _ _ _ _ c.questioned.result c.questioned.ensures.keeper_clean c.if-n-eq0.true h.1 h.2 c.questioned.ensures.question

use Rattle.pattern.specs.Deltas.{Fits}
use Rattle.pattern.proofs.callers.Told.{refuted, answers_no}
use Rattle.pattern.proofs.pattern.Pattern.changed.Goals as goal

pub returns-then-not-ascend-clause-exactly : goal.returns-then-not-ascend-clause-exactly
returns-then-not-ascend-clause-exactly c = answers_no (Fits c.args.self (record { removed = c.args.gone.now; added = c.args.come.now })) (λ t. refuted c.ascend.result c.if-not-ascend.true c.ascend.ensures t.removed_ascend)

pub returns-then-not-ascend-2-clause-exactly : goal.returns-then-not-ascend-2-clause-exactly
returns-then-not-ascend-2-clause-exactly c = answers_no (Fits c.args.self (record { removed = c.args.gone.now; added = c.args.come.now })) (λ t. refuted c.ascend-2.result c.if-not-ascend-2.true c.ascend-2.ensures t.added_ascend)

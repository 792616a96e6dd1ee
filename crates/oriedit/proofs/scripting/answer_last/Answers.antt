use Rattle.std.proofs.Common.{sym, subst}
use Rattle.qroot2.proofs.callers.Reading.{none_long, some_long}
use Rattle.std.proofs.lemmas.List.{nil_from_length}
use Rattle.oriedit.specs.Lasting.{AnswersLast}
use Rattle.oriedit.proofs.Lasting.{no_last, last_answered, last_ended, some_bytes}
use Rattle.oriedit.proofs.scripting.answer_last.Goals as goal

pub returns-then-is_empty-clause-last : goal.returns-then-is_empty-clause-last
returns-then-is_empty-clause-last g c =
    no_last c.args.unit.now _ _ (nil_from_length c.args.unit.now (none_long _ _ c.is_empty.ensures c.if-is_empty.true))

pub returns-in-Ok-clause-last : goal.returns-in-Ok-clause-last
returns-in-Ok-clause-last g c =
    last_answered c.args.unit.now _ _ _ (some_bytes c.args.unit.now (some_long _ _ c.is_empty.ensures c.if-is_empty.false)) c.in-Ok.ensures.one

pub returns-in-Err-clause-last : goal.returns-in-Err-clause-last
returns-in-Err-clause-last g c =
    subst (AnswersLast c.args.unit.now _ _ _) (sym c.status.ensures) (last_ended c.args.unit.now _ _ _ c.in-Err.early (some_bytes c.args.unit.now (some_long _ _ c.is_empty.ensures c.if-is_empty.false)) c.in-Err.ensures.one)

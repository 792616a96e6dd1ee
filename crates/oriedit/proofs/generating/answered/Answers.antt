use Rattle.std.proofs.Common.{sym, subst, ap, ◌∙◌}
use Rattle.std.specs.Prelude.{Err}
use Rattle.std.proofs.lemmas.Result.{err_from_is_err_and}
use Rattle.oriedit.specs.Generating.{Framing}
use Rattle.oriedit.specs.Counting.{AnswersAll}
use Rattle.oriedit.proofs.Rounds.{name_is, opened, unopened, broken, unclosed, all_answered}
use Rattle.oriedit.proofs.generating.answered.Goals as goal

pub returns-in_err-reply_to-clause-all : goal.returns-in_err-reply_to-clause-all
returns-in_err-reply_to-clause-all g c =
    let p = err_from_is_err_and c.from_residual.result c.from_residual.ensures.1 in
    subst (AnswersAll _ _ _ _ _) (sym (p.1 ∙ ap Err p.2)) (unopened _ _ _ _ _ (c.in_err-reply_to.ensures.reply Framing))

pub returns-in_err-tally-clause-all : goal.returns-in_err-tally-clause-all
returns-in_err-tally-clause-all g c =
    let p = err_from_is_err_and c.from_residual-in_err-tally.result c.from_residual-in_err-tally.ensures.1 in
    let name = c.copy.ensures.same ∙ name_is c.new.result c.unwrap-name.result _ c.unwrap-name.ensures c.new.ensures.ok in
    let h = c.in_ok-reply_to.ensures.reply Framing in
    subst (AnswersAll _ _ _ _ _) (sym (p.1 ∙ ap Err p.2))
    (broken _ _ h.0 _ _ _ _ _ c.in_err-tally.ensures.keeper_clean (opened _ _ h.0 _ _ _ name c.square.ensures h.1) c.in_err-tally.ensures.turns)

pub returns-in_err-last-clause-all : goal.returns-in_err-last-clause-all
returns-in_err-last-clause-all g c =
    let p = err_from_is_err_and c.from_residual-in_err-last.result c.from_residual-in_err-last.ensures.1 in
    let name = c.copy.ensures.same ∙ name_is c.new.result c.unwrap-name.result _ c.unwrap-name.ensures c.new.ensures.ok in
    let h = c.in_ok-reply_to.ensures.reply Framing in
    let t = c.in_ok-tally.ensures.turns in
    subst (AnswersAll _ _ _ _ _) (sym (p.1 ∙ ap Err p.2))
    (unclosed _ _ t.0 h.0 c.in_ok-tally.tally _ _ _ _ _ _ _ c.in_ok-tally.ensures.keeper_clean c.in_err-last.ensures.keeper_clean (opened _ _ h.0 _ _ _ name c.square.ensures h.1) t.1 c.in_err-last.ensures.closes)

pub returns-clause-all : goal.returns-clause-all
returns-clause-all g c =
    let name = c.copy.ensures.same ∙ name_is c.new.result c.unwrap-name.result _ c.unwrap-name.ensures c.new.ensures.ok in
    let h = c.in_ok-reply_to.ensures.reply Framing in
    let t = c.in_ok-tally.ensures.turns in
    all_answered _ _ t.0 h.0 c.in_ok-tally.tally c.in_ok-last.last _ _ _ _ _ _ _ c.in_ok-tally.ensures.keeper_clean c.in_ok-last.ensures.keeper_clean (opened _ _ h.0 _ _ _ name c.square.ensures h.1) t.1 c.in_ok-last.ensures.closes

use Rattle.std.proofs.Common.{subst, sym, take}
use Rattle.chains.proofs.callers.Elements.{placed, unplaced}
use Rattle.routes.specs.FirstWords.{IsFirstWord, is_end}
use Rattle.routes.proofs.Verbs.{first_word_at, first_word_all}
use Rattle.routes.proofs.change.first_word.Goals as goal

pub returns-in-Some : goal.returns-in-Some
returns-in-Some c =
    let text = c.args.text.now in
    let end = c.in-Some.end in
    let at = first_word_at text end (placed is_end text end (sym c.in-Some.ensures.place)).1 in
    subst (λ w. IsFirstWord text w c.split_at.result.1.now) (sym c.split_at.ensures.front) (subst (λ b. IsFirstWord text (take end text) b) (sym c.split_at.ensures.back) at)

pub returns-in-None : goal.returns-in-None
returns-in-None c = first_word_all c.args.text.now (unplaced is_end c.args.text.now (sym c.in-None.ensures.place))

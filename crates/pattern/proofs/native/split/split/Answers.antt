use Rattle.std.proofs.Common.{sym, ◌∙◌, subst, List, ℕ, take, ◌+◌}
use Rattle.std.proofs.lemmas.List.{take_rest}
use Rattle.pattern.specs.Splitting.{SplitsAt}
use Rattle.pattern.proofs.Splits.{split_at, never}
use Rattle.pattern.proofs.native.split.split.Goals as goal

pub returns-in_err-place-clause-none : goal.returns-in_err-place-clause-none
returns-in_err-place-clause-none c = λ _. never c.args.bytes.now c.args.at (sym c.place_of.ensures ∙ c.in_err-place.was)

pub returns-clause-some : goal.returns-clause-some
returns-clause-some c = (let cut = split_at c.args.bytes.now c.args.at c.in_ok-place.place (sym c.place_of.ensures ∙ c.in_ok-place.was) in
    subst (λ (after : List ℕ). SplitsAt c.args.bytes.now c.args.at (take c.in_ok-place.place c.args.bytes.now) after) (sym (take_rest c.args.bytes.now (c.in_ok-place.place + 1))) cut)

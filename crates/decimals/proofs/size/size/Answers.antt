use Rattle.std.proofs.Common.{◌*◌, ◌^◌, min, subst, sym, ap, ◌∙◌}
use Rattle.qroot2.specs.Digits.{AllDigits, value_on}
use Rattle.decimals.specs.Decimal.{cap}
use Rattle.decimals.proofs.Scaling.{digits_take, size_of}
use Rattle.decimals.proofs.size.size.Goals as goal

pub value_on-requires-clause-digits : goal.value_on-requires-clause-digits
value_on-requires-clause-digits c = subst AllDigits (sym c.front.ensures) (digits_take c.wanted-wanted.result c.args.before.now c.requires.before)

pub value_on-value-requires-clause-digits : goal.value_on-value-requires-clause-digits
value_on-value-requires-clause-digits c = subst AllDigits (sym c.front-2.ensures) (digits_take c.saturating_sub-more.result c.args.behind.now c.requires.behind)

pub returns : goal.returns
returns c =
    let b = c.args.before.now in
    let f = c.args.behind.now in
    c.times_ten.ensures ∙ ap (λ k. min (c.value_on-value.result * 10 ^ k) cap) c.saturating_sub.ensures
    ∙ size_of b f c.args.exponent.minus c.args.exponent.size c.wanted-wanted.result c.saturating_sub-more.result c.value_on.result c.value_on-value.result
    c.requires.before c.requires.behind c.wanted-wanted.ensures c.saturating_sub-more.ensures
    (c.value_on.ensures ∙ ap (λ ds. min (value_on 0 ds) cap) c.front.ensures)
    (c.value_on-value.ensures ∙ ap (λ ds. min (value_on c.value_on.result ds) cap) c.front-2.ensures)

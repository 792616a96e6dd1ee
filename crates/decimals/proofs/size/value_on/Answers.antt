use Rattle.std.proofs.Common.{◌+◌, ◌-◌, ◌*◌, get_or, take, min, ◌∙◌, ap, sym}
use Rattle.std.proofs.lemmas.List.{take_more}
use Rattle.qroot2.specs.Digits.{value_on as digits_on}
use Rattle.qroot2.proofs.callers.Numerals.{value_push}
use Rattle.qroot2.proofs.callers.Splits.{digits_at}
use Rattle.decimals.specs.Decimal.{cap}
use Rattle.decimals.proofs.Scaling.{capped_more}
use Rattle.decimals.proofs.size.value_on.Goals as goal

pub overflow_sub-byte : goal.overflow_sub-byte
overflow_sub-byte c = (digits_at c.args.digits.now c.loop-byte.byte-index c.requires.digits c.loop-byte-test.true).0

pub loop-byte-preserved : goal.loop-byte-preserved
loop-byte-preserved c =
    let xs = c.args.digits.now in
    let i = c.loop-byte.byte-index in
    c.min-value.ensures ∙ ap (λ t. min (10 * c.loop-byte.value + t) cap) c.from.ensures
    ∙ capped_more c.loop-byte.value (digits_on c.args.start (take i xs)) (get_or xs i 0 - 48) c.loop-byte.invariant
    ∙ ap (λ t. min t cap) (sym (ap (digits_on c.args.start) (take_more xs i 0 c.loop-byte-test.true) ∙ value_push c.args.start (take i xs) (get_or xs i 0)))

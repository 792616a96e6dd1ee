use Rattle.std.proofs.Common.{◌≡◌, ◌+◌, ◌*◌, arith, get_or, take, lit≤}
use Rattle.std.specs.Str.Parse.{digits_value}
use Rattle.std.proofs.lemmas.Str.{digit_value_digit}
use Rattle.std.proofs.lemmas.Str.Parse.{digit_at, digits_value-take-le}
use Rattle.std.proofs.lemmas.Int.Digits.{digits_value_more}
use Rattle.api.proofs.FieldValues.{below}
use Rattle.api.proofs.lengths.value_of.Goals as goal

pub overflow_mul-value : goal.overflow_mul-value
overflow_mul-value c =
    let all = below c.args.digits.now c.requires.digits c.requires.few in
    let front = digits_value-take-le 10 c.args.digits.now c.loop-digit.digit-index (lit≤ tt) in
    omega (arith, all, front, c.loop-digit.invariant)

pub overflow_sub-digit : goal.overflow_sub-digit
overflow_sub-digit c = (digit_at c.args.digits.now c.loop-digit.digit-index c.requires.digits c.loop-digit-test.true).0

pub overflow_add-value : goal.overflow_add-value
overflow_add-value c =
    let all = below c.args.digits.now c.requires.digits c.requires.few in
    let front = digits_value-take-le 10 c.args.digits.now c.loop-digit.digit-index (lit≤ tt) in
    let one = digit_at c.args.digits.now c.loop-digit.digit-index c.requires.digits c.loop-digit-test.true in
    omega (arith, all, front, one.0, one.1, c.loop-digit.invariant, c.from.ensures)

pub loop-digit-preserved : goal.loop-digit-preserved
loop-digit-preserved c =
    let more = digits_value_more 10 c.args.digits.now c.loop-digit.digit-index c.loop-digit-test.true in
    let one = digit_value_digit (get_or c.args.digits.now c.loop-digit.digit-index 0) (digit_at c.args.digits.now c.loop-digit.digit-index c.requires.digits c.loop-digit-test.true) in
    let value : c.loop-digit.value * 10 + c.from.result ≡ digits_value 10 (take (c.loop-digit.digit-index + 1) c.args.digits.now) = omega (arith, more, one, c.loop-digit.invariant, c.from.ensures) in
    value

use Rattle.std.proofs.Common.{◌≡◌, arith, ap}
use Rattle.qroot2.proofs.callers.Reading.{none_long, some_long, signed_some, signed_plain, signed_minus_none, signed_minus_zero, signed_minus_some}
use Rattle.std.proofs.Common.{length}
use Rattle.qroot2.proofs.text.signed.Goals as goal

pub returns-then-is_empty : goal.returns-then-is_empty
returns-then-is_empty c = λ z e. let n : length c.args.bytes.now ≡ 0 = none_long _ _ c.is_empty.ensures c.if-is_empty.true in omega (arith, signed_some z, ap length e, n)

pub returns-then-bytes-ne45 : goal.returns-then-bytes-ne45
returns-then-bytes-ne45 c = signed_plain c.args.bytes.now c.in_ok-size.size c.in_ok-size.ensures

pub returns-in_err-size-2 : goal.returns-in_err-size-2
returns-in_err-size-2 c = rw c.from_residual-in_err-size-2.ensures (signed_minus_none c.args.bytes.now c.if-bytes-ne45.false c.in_err-size-2.ensures)

pub returns-then-size-eq0 : goal.returns-then-size-eq0
returns-then-size-eq0 c = signed_minus_zero c.args.bytes.now c.in_ok-size-2.size c.if-bytes-ne45.false c.in_ok-size-2.ensures c.if-size-eq0.true

pub returns : goal.returns
returns c = signed_minus_some c.args.bytes.now c.in_ok-size-2.size (some_long _ _ c.is_empty.ensures c.if-is_empty.false) c.if-bytes-ne45.false c.in_ok-size-2.ensures c.if-size-eq0.false

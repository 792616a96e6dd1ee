use Rattle.std.proofs.Common.{inl, inr, arith}
use Rattle.qroot2.proofs.callers.Reading.{none_long, some_long}
use Rattle.decimals.proofs.callers.Spelling.{small_found, small_none}
use Rattle.decimals.proofs.exponent.small.Goals as goal
use Rattle.decimals.proofs.exponent.small.Goals.{then-is_empty-via-then-is_empty, then-is_empty-via-else-is_empty+then-digits-gt3, then-is_empty-via-else-is_empty+else-digits-gt3+then-not-is_empty}

pub returns-then-is_empty : goal.returns-then-is_empty
returns-then-is_empty c = small_none c.args.bytes.now c.run.result.0.now c.run.result.1.now c.unsigned-minus.result.1.now c.unsigned-minus.result.0 c.unsigned-minus.ensures c.run.ensures
    (elim c.then-is_empty.branch [
      | then-is_empty-via-then-is_empty w ↦ inl (none_long _ _ c.is_empty.ensures w.if-is_empty.true)
      | then-is_empty-via-else-is_empty+then-digits-gt3 w ↦ inr (inl w.if-digits-gt3.true)
      | then-is_empty-via-else-is_empty+else-digits-gt3+then-not-is_empty w ↦ inr (inr (some_long _ _ w.is_empty-else-digits-gt3.ensures w.if-not-is_empty.true))
    ])

pub overflow_cast-result : goal.overflow_cast-result
overflow_cast-result c = (let h = (small_found c.args.bytes.now c.run.result.0.now c.run.result.1.now c.unsigned-minus.result.1.now c.unsigned-minus.result.0 c.value_on.result c.unsigned-minus.ensures c.run.ensures
    (none_long _ _ c.is_empty-else-digits-gt3.ensures c.if-not-is_empty.false) (some_long _ _ c.is_empty.ensures c.if-is_empty.false) c.if-digits-gt3.false c.value_on.ensures).1 in omega (arith, h))

pub returns : goal.returns
returns c = small_found c.args.bytes.now c.run.result.0.now c.run.result.1.now c.unsigned-minus.result.1.now c.unsigned-minus.result.0 c.value_on.result c.unsigned-minus.ensures c.run.ensures
    (none_long _ _ c.is_empty-else-digits-gt3.ensures c.if-not-is_empty.false) (some_long _ _ c.is_empty.ensures c.if-is_empty.false) c.if-digits-gt3.false c.value_on.ensures

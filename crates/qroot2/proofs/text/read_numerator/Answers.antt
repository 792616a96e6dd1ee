use Rattle.std.specs.Prelude.{pos}
use Rattle.std.proofs.Common.{refl}
use Rattle.qroot2.proofs.callers.Reading.{none_long, some_long}
use Rattle.qroot2.proofs.ReadingParts.{held_kept, whole_none, root_read, behind_none}
use Rattle.qroot2.proofs.text.read_numerator.Goals as goal

pub returns-in_err-a-in-None : goal.returns-in_err-a-in-None
returns-in_err-a-in-None c = rw c.from_residual.ensures (whole_none c.args.bytes.now c.in-None.ensures c.in_err-a-in-None.ensures)

pub returns-then-is_empty : goal.returns-then-is_empty
returns-then-is_empty c = root_read c.both.result c.in-Some.parts.now c.in-Some.rest.now c.args.bytes.now c.in-Some.ensures.0 c.in-Some.ensures.1 (none_long _ _ c.is_empty.ensures c.if-is_empty.true) c.both.ensures

pub returns-else-is_empty : goal.returns-else-is_empty
returns-else-is_empty c = behind_none c.in-Some.parts.now c.in-Some.rest.now c.args.bytes.now c.in-Some.ensures.0 c.in-Some.ensures.1 (some_long _ _ c.is_empty.ensures c.if-is_empty.false)

pub returns-in_ok-a-in-None : goal.returns-in_ok-a-in-None
returns-in_ok-a-in-None c = (c.in_ok-a-in-None.ensures.0, pos 0, c.in_ok-a-in-None.ensures.1, held_kept c.in_ok-a-in-None.a c.in_ok-a-in-None.ensures.0 c.in_ok-a-in-None.ensures.2, refl)

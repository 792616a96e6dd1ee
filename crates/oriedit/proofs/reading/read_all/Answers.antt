use Rattle.std.proofs.Common.{◌++◌, take, arith, length-append, length-take}
use Rattle.ports.proofs.callers.Taken.{take_within}
use Rattle.oriedit.proofs.Taken.{took_more}
use Rattle.oriedit.proofs.reading.read_all.Goals as goal

pub returns-then-is_err-clause-bytes : goal.returns-then-is_err-clause-bytes
returns-then-is_err-clause-bytes g c = (
  c.loop-buf.bytes.items ++ take c.in-Ok.count c.take.new.buf,
  took_more _ _ _ _ _ _ _ _ c.loop-buf.invariant.taken c.in-Ok.ensures.bytes,
  (let given = take_within _ _ _ _ _ _ c.in-Ok.ensures.bytes in
      simp (length-append, length-take) (omega (arith, simp length-take at given, c.min-room.ensures, c.len-in-loop-buf.ensures, c.loop-buf-test.true))),
)

use Rattle.std.proofs.Common.{length}
use Rattle.routes.proofs.Bytes.{IsTaken}
use Rattle.routes.proofs.query.unescape.Given as goal

abbrev pub invariant-loop-byte : goal.invariant-loop-byte
invariant-loop-byte l = IsTaken l.fn.text l.value.items l.rest

abbrev pub decreases-loop-byte : goal.decreases-loop-byte
decreases-loop-byte l = length l.rest

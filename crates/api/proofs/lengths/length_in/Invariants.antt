use Rattle.std.proofs.Common.{take}
use Rattle.api.specs.Lengths.{lengths}
use Rattle.api.specs.Fields.{IsLength, pairs}
use Rattle.api.proofs.lengths.length_in.Given as goal

abbrev pub invariant-loop-field : goal.invariant-loop-field
invariant-loop-field l = IsLength (lengths (pairs l.bytes (take l.field-index l.fields))) l.found

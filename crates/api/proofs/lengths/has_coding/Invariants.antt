use Rattle.std.proofs.Common.{◌≡◌, take, []}
use Rattle.api.specs.Lengths.{codings}
use Rattle.api.specs.Fields.{pairs}
use Rattle.api.proofs.lengths.has_coding.Given as goal

abbrev pub invariant-loop-field : goal.invariant-loop-field
invariant-loop-field l = codings (pairs l.bytes (take l.field-index l.fields)) ≡ []

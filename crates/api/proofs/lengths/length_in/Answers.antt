use Rattle.std.proofs.Common.{sym, subst, take}
use Rattle.api.specs.Lengths.{lengths}
use Rattle.api.specs.Fields.{IsLength, pairs}
use Rattle.api.proofs.FieldValues.{pairs_more}
use Rattle.api.proofs.lengths.length_in.Goals as goal

pub loop-field-preserved : goal.loop-field-preserved
loop-field-preserved c =
    subst (λ fields. IsLength (lengths fields) c.with_field-found.result)
    (sym (pairs_more c.args.bytes.now c.args.fields.now c.loop-field.field-index _ c.loop-field-test.true))
    (c.with_field-found.ensures (pairs c.args.bytes.now (take c.loop-field.field-index c.args.fields.now)) c.loop-field.invariant)

use Rattle.std.proofs.Common.{◌∙◌, sym, codes}
use Rattle.api.proofs.FieldValues.{found_one}
use Rattle.api.proofs.lengths.has_coding.Goals as goal

pub returns-then-is_named : goal.returns-then-is_named
returns-then-is_named c =
    found_one (codes "transfer-encoding") c.args.bytes.now c.args.fields.now c.loop-field.field-index _ c.loop-field-test.true (sym c.is_named.ensures ∙ c.if-is_named.true)

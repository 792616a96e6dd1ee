use Rattle.std.proofs.Common.{sym, ap, subst, ◌∙◌, codes, ◌++◌, ◌∷◌, []}
use Rattle.httparse.specs.Spans.{header_bytes}
use Rattle.api.specs.Lengths.{lengths}
use Rattle.api.specs.Fields.{IsLength}
use Rattle.api.proofs.FieldValues.{such_field}
use Rattle.api.proofs.lengths.with_field.Goals as goal

pub returns-then-is_named : goal.returns-then-is_named
returns-then-is_named c = λ fields h.
    subst (λ texts. IsLength texts c.with_value.result)
    (ap (λ v. lengths fields ++ v ∷ []) c.of.ensures ∙ sym (such_field (codes "content-length") fields (header_bytes c.args.bytes.now c.args.field.now) (sym c.is_named.ensures ∙ c.if-is_named.true)))
    (c.with_value.ensures (lengths fields) h)

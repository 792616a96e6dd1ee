use Rattle.std.proofs.Common.{subst, refl, ap, ◌∙◌}
use Rattle.std.specs.Prelude.{Err}
use Rattle.pattern.proofs.callers.LineText.{unspaced, ends_answered, ReadsEnds, no_body, a_body}
use Rattle.pattern.proofs.native.line.read_line.Goals as goal

pub returns-in_default-split-clause-form : goal.returns-in_default-split-clause-form
returns-in_default-split-clause-form c = λ _. unspaced c.args.line.now c.in-Some.first c.in-Some.ends.now c.in-Some.ensures.some (c.in_default-split.ensures.none refl)

pub returns-in-Err-Syntax-clause-form : goal.returns-in-Err-Syntax-clause-form
returns-in-Err-Syntax-clause-form c = λ _. no_body c.args.line.now c.in-Some.first c.in-Some.ends.now c.in-Some.ensures.some
    (subst (ReadsEnds c.in-Some.ends.now) (c.in-Err-Syntax.is ∙ ap (λ e. Err e) c.in-Err-Syntax.field-0-is)
    (ends_answered c.in-Some.ends.now c.in-Some-split.from.now c.in-Some-split.to.now c.read_end.result c.read_end-2.result c.both.result c.in-Some-split.ensures.some c.read_end.ensures c.read_end-2.ensures c.both.ensures))

pub returns-in-Ok-clause-ok : goal.returns-in-Ok-clause-ok
returns-in-Ok-clause-ok c =
    let read = subst (ReadsEnds c.in-Some.ends.now) c.in-Ok.is
    (ends_answered c.in-Some.ends.now c.in-Some-split.from.now c.in-Some-split.to.now c.read_end.result c.read_end-2.result c.both.result c.in-Some-split.ensures.some c.read_end.ensures c.read_end-2.ensures c.both.ensures) in
    (c.in-Some.ensures.some ∙ a_body c.in-Some-colour_of.colour c.in-Some.first c.in-Some.ends.now c.in-Ok.ends.0 c.in-Ok.ends.1 c.in-Some-colour_of.ensures.some read.0, read.1)

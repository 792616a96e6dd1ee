use Rattle.std.proofs.Common.{◌≡◌, refl, sym, subst, ap, ◌∙◌, arith}
use Rattle.std.specs.Prelude.{pos, unsigned_abs}
use Rattle.exact.specs.Number.{ExactNumber, Same, IsRepresentable}
use Rattle.qroot2.proofs.callers.Held.{through_64, held_64}
use Rattle.qroot2.proofs.callers.OneText.{given_text, same_denominator, not_lowest, not_held}
use Rattle.qroot2.proofs.text.in_lowest_terms.Goals as goal

pub returns-then-d : goal.returns-then-d
returns-then-d c =
    let t : ExactNumber = record { a = c.args.top.a; b = c.args.top.b; d = c.args.d } in
    let given = given_text c.from.result c.from-2.result c.from-3.result c.args.top.a c.args.top.b c.args.d c.requires.a c.requires.b c.requires.d.1 c.from.ensures c.from-2.ensures c.from-3.ensures in
    let same : Same c.in-Some.num t = subst (λ (y : ExactNumber). Same c.in-Some.num y) given c.in-Some.ensures.some.0 in
    let n = c.in-Some.ensures.some.1 in
    let d : c.in-Some.num.d ≡ c.args.d = sym (ap (λ z. unsigned_abs (through_64 z)) c.d.ensures.value ∙ ap unsigned_abs (held_64 (pos c.in-Some.num.d) (omega (arith, n.d)))) ∙ c.if-d.true in
    (same_denominator c.in-Some.num t c.requires.d.0 same d, n)

pub returns-else-d : goal.returns-else-d
returns-else-d c =
    let t : ExactNumber = record { a = c.args.top.a; b = c.args.top.b; d = c.args.d } in
    let given = given_text c.from.result c.from-2.result c.from-3.result c.args.top.a c.args.top.b c.args.d c.requires.a c.requires.b c.requires.d.1 c.from.ensures c.from-2.ensures c.from-3.ensures in
    let same : Same c.in-Some.num t = subst (λ (y : ExactNumber). Same c.in-Some.num y) given c.in-Some.ensures.some.0 in
    let n = c.in-Some.ensures.some.1 in
    let d = ap (λ z. unsigned_abs (through_64 z)) c.d.ensures.value ∙ ap unsigned_abs (held_64 (pos c.in-Some.num.d) (omega (arith, n.d))) in
    (refl, not_lowest c.in-Some.num t n c.requires.d.0 same (λ e. c.if-d.false (d ∙ e)))

pub returns-in-None : goal.returns-in-None
returns-in-None c =
    let t : ExactNumber = record { a = c.args.top.a; b = c.args.top.b; d = c.args.d } in
    let given = given_text c.from.result c.from-2.result c.from-3.result c.args.top.a c.args.top.b c.args.d c.requires.a c.requires.b c.requires.d.1 c.from.ensures c.from-2.ensures c.from-3.ensures in
    (refl, not_held t c.requires.d.0 c.requires.a c.requires.b c.requires.d.1 (subst (λ (y : ExactNumber). IsRepresentable y → ⊥) given c.in-None.ensures.none))

use Rattle.std.proofs.Common.{◌≡◌, ◌∷◌, refl, ap, subst, ◌∙◌, arith}
use Rattle.sheet.specs.Pattern.{ExactCrease}
use Rattle.pattern.specs.NativeReading.{IsAfterLast}
use Rattle.pattern.proofs.callers.Told.{refuted, shown}
use Rattle.pattern.proofs.callers.SingleText.{one_crease_text}
use Rattle.pattern.proofs.callers.DeltaLines.{entry_read, line_is, unended_entry, text_of_entry, after_told, after_asked}
use Rattle.pattern.proofs.native.delta.first_entry.Goals as goal
use Rattle.pattern.proofs.native.delta.first_entry.Goals.{else-first-sign-via-then-first-sign+else-is_after, else-first-sign-via-else-first-sign}

pub returns-in_err-line-clause-none : goal.returns-in_err-line-clause-none
returns-in_err-line-clause-none c = λ _ creases f rest l e. unended_entry c.args.sign c.args.bytes.now creases f rest (c.in_err-line.ensures.none refl) e

pub returns-in_err-first-clause-none : goal.returns-in_err-first-clause-none
returns-in_err-first-clause-none c = λ _ creases f rest l e. c.in_err-first.ensures.none refl _ _ (line_is c.args.sign c.args.bytes.now c.in_ok-line.line.now c.in_ok-line.field-0-1.now creases f rest c.requires c.in_ok-line.ensures.some e)

pub returns-in_err-crease-clause-none : goal.returns-in_err-crease-clause-none
returns-in_err-crease-clause-none c = λ _ creases f rest l e. c.in_err-crease.ensures.none refl f
    (text_of_entry c.args.sign c.in_ok-first.first c.args.bytes.now c.in_ok-line.line.now c.in_ok-line.field-0-1.now c.in_ok-first.text.now creases f rest c.requires c.in_ok-line.ensures.some c.in_ok-first.ensures.some e).1

pub returns-then-is_after-clause-some : goal.returns-then-is_after-clause-some
returns-then-is_after-clause-some c = λ creases l.
    let crease = c.in_ok-crease.crease in
    let after = after_told creases c.p.result c.q.result crease.seg (c.p.ensures.value ∙ ap (λ (g : ExactCrease). g.seg.p) c.crease.view_is) (c.q.ensures.value ∙ ap (λ (g : ExactCrease). g.seg.q) c.crease.view_is) (shown c.is_after.result c.if-is_after.true (c.is_after.ensures creases l)) in
    let sign : c.in_ok-first.first ≡ c.args.sign = omega (arith, c.if-first-sign.true) in
    let line : c.in_ok-line.line.now ≡ c.args.sign ∷ 32 ∷ c.in_ok-first.text.now = c.in_ok-first.ensures.some ∙ ap (λ x. x ∷ 32 ∷ c.in_ok-first.text.now) sign in
    entry_read c.args.sign c.args.bytes.now c.in_ok-line.line.now c.in_ok-line.field-0-1.now c.in_ok-first.text.now creases crease c.in_ok-line.ensures.some line c.in_ok-crease.ensures.some after

pub returns-else-first-sign-clause-none : goal.returns-else-first-sign-clause-none
returns-else-first-sign-clause-none c = λ _ creases f rest l e.
    let crease = c.in_ok-crease.crease in
    let t = text_of_entry c.args.sign c.in_ok-first.first c.args.bytes.now c.in_ok-line.line.now c.in_ok-line.field-0-1.now c.in_ok-first.text.now creases f rest c.requires c.in_ok-line.ensures.some c.in_ok-first.ensures.some e in
    let same : f ≡ crease = one_crease_text c.in_ok-first.text.now f crease t.1 c.in_ok-crease.ensures.some in
    elim c.else-first-sign.branch [
      | else-first-sign-via-then-first-sign+else-is_after w ↦ refuted w.is_after.result w.if-is_after.false (w.is_after.ensures creases l)
          (after_asked creases w.p.result w.q.result crease.seg (w.p.ensures.value ∙ ap (λ (g : ExactCrease). g.seg.p) w.crease.view_is) (w.q.ensures.value ∙ ap (λ (g : ExactCrease). g.seg.q) w.crease.view_is) (subst (λ (g : ExactCrease). IsAfterLast creases g.seg) same e.after))
      | else-first-sign-via-else-first-sign w ↦ omega (arith, w.if-first-sign.false, t.0)
    ]

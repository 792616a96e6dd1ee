use Rattle.std.proofs.Common.{◌≡◌, ℕ, IsTrue, nat_eq, sym, subst, ◌∙◌, arith}
use Rattle.std.specs.Prelude.{◌↔◌}
use Rattle.std.proofs.lemmas.Bool.{eqb-true}
use Rattle.std.proofs.lemmas.Bool.Decides.{nat_tests}
use Rattle.exact.specs.Plane.{ExactPoint, Overlap}
use Rattle.qroot2.specs.declared.sign.Sign.{Sign}
use Rattle.qroot2.specs.declared.sign.Sign.TheVariants as sign
use Rattle.plane.specs.Sides.{IsSide}
use Rattle.pattern.proofs.Beside.{off_line, one_dir, on_one_line}
use Rattle.pattern.proofs.callers.Told.{answers_no}
use Rattle.pattern.proofs.apart.overlaps.Goals as goal

same_told : (j k : ℕ) → IsTrue (nat_eq j k) ↔ (j ≡ k)
same_told j k = (λ t. eqb-true j k t, λ e. grind (arith, nat_tests))

side_at : (p s r t : ExactPoint) (k : ℕ) (x : Sign) → p ≡ s → r ≡ t → IsSide p k r x → IsSide s k t x
side_at p s r t k x e f h = subst (λ (y : ExactPoint). IsSide y k t x) e (subst (λ (z : ExactPoint). IsSide p k z x) f h)

pub returns-in-Zero : goal.returns-in-Zero
returns-in-Zero c =
    let s = c.args.seg.now in
    let t = c.args.later.now in
    let on = side_at c.p-from.result s.p c.p-start.result t.p c.args.dir sign.Zero c.p-from.ensures.value c.p-start.ensures.value c.in-Zero.ensures in
    let same = same_told c.number.result c.number-in-Zero.result in (
      λ e. on_one_line s t c.args.dir c.dir.result c.p-from.ensures.segment c.p-start.ensures.segment c.requires.dir.0 c.requires.dir.1 c.dir.ensures.leads (sym c.number.ensures.value ∙ same.0 e ∙ c.number-in-Zero.ensures.value) on c.requires.begins c.requires.meets,
      λ v. same.1 (c.number.ensures.value ∙ one_dir s t c.args.dir c.dir.result c.p-from.ensures.segment c.p-start.ensures.segment c.requires.dir.0 c.dir.ensures.small c.requires.dir.1 c.dir.ensures.leads v ∙ sym c.number-in-Zero.ensures.value),
    )

pub returns-in_default : goal.returns-in_default
returns-in_default c =
    let s = c.args.seg.now in
    let t = c.args.later.now in
    answers_no (Overlap s t) (off_line s t c.args.dir c.side.result c.p-from.ensures.segment c.p-start.ensures.segment c.requires.dir.0 c.requires.dir.1
    (side_at c.p-from.result s.p c.p-start.result t.p c.args.dir c.side.result c.p-from.ensures.value c.p-start.ensures.value c.side.ensures) c.in_default.not-Zero)

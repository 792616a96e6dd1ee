use Rattle.std.proofs.Common.{◌≡◌, length, refl, sym, ap, subst, ◌∙◌, inl, inr, arith}
use Rattle.std.specs.Prelude.{slice_get}
use Rattle.std.proofs.lemmas.Bool.{cases_lt}
use Rattle.std.proofs.lemmas.Option.{slice_get_read, slice_get_within}
use Rattle.forms.specs.Common.{IsSmall}
use Rattle.subdivide.specs.declared.line.MarkedLine.{MarkedLine}
use Rattle.subdivide.proofs.callers.Gets.{some_is}
use Rattle.subdivide.proofs.early.are_small.Goals as goal

pub loop-line-preserved : goal.loop-line-preserved
loop-line-preserved c = λ i m h e. elim (cases_lt i c.loop-line.line-index) [
  | inl r ↦ c.loop-line.invariant i m r e
  | inr r ↦ subst (λ (l : MarkedLine). IsSmall c.args.d l.seg.p)
      (some_is (sym (slice_get_read c.args.lines.now (length c.args.lines.now) c.loop-line.line-index c.line-item.result refl c.loop-line-test.true c.line-item.is) ∙ ap (slice_get c.args.lines.now) (let z : c.loop-line.line-index ≡ i = omega (arith, r, h) in z) ∙ e))
      (subst (IsSmall c.args.d) c.p.ensures.value (c.is_small.ensures.0 c.if-not-is_small.false))
]

pub returns : goal.returns
returns c = λ e. record { each = λ i l h. c.loop-line.invariant i l (omega (arith, slice_get_within c.args.lines.now i l h, c.loop-line-test.false)) h }

use Rattle.std.proofs.Common.{subst, sym}
use Rattle.sheet.specs.Sheet.{InSheet, OnBorder}
use Rattle.sheet.specs.Pattern.{IsKey}
use Rattle.exact.specs.Plane.{IsPointCanonical}
use Rattle.pattern.proofs.callers.Told.{refuted, shown, answers_no}
use Rattle.pattern.proofs.fits.is_key.Goals as goal
use Rattle.creases.proofs.callers.Told.{answers_other}

pub returns-then-not-are_in_sheet : goal.returns-then-not-are_in_sheet
returns-then-not-are_in_sheet c = answers_no (IsKey c.args.sheet.now c.args.seg.now)
    (λ k. refuted c.are_in_sheet.result c.if-not-are_in_sheet.true c.are_in_sheet.ensures (subst (InSheet c.args.sheet.now) (sym c.p-from.ensures.value) k.from_in, subst (InSheet c.args.sheet.now) (sym c.q-to.ensures.value) k.to_in))

pub returns : goal.returns
returns c =
    let both = shown c.are_in_sheet.result c.if-not-are_in_sheet.false c.are_in_sheet.ensures in
    answers_other c.seg_on_border.result (OnBorder c.args.sheet.now c.args.seg.now) (IsKey c.args.sheet.now c.args.seg.now) c.seg_on_border.ensures
    (λ n. record {
      segment = c.p-from.ensures.segment;
      from = subst IsPointCanonical c.p-from.ensures.value c.p-from.ensures.canonical;
      to = subst IsPointCanonical c.q-to.ensures.value c.q-to.ensures.canonical;
      from_in = subst (InSheet c.args.sheet.now) c.p-from.ensures.value both.0;
      to_in = subst (InSheet c.args.sheet.now) c.q-to.ensures.value both.1;
      inner = n;
    })
    (λ k. k.inner)

use Rattle.std.proofs.Common.{◌≡◌, Bool, true, IsTrue, refl, subst, sym, inl, inr}
use Rattle.std.specs.Prelude.{◌↔◌, Result, Err}
use Rattle.exact.specs.Plane.{ExactPoint, ExactSegment, SamePoint, IsSegment}
use Rattle.geometry.proofs.PointOrder.{same_itself}
use Rattle.sheet.specs.Sheet.{ExactSheet, InSheet, OnBorder}
use Rattle.plane.specs.Segments.{HasEnds}
use Rattle.plane.specs.declared.segment.SegBad.{SegBad}
use Rattle.plane.specs.declared.segment.SegBad.TheVariants as seg_bad
use Rattle.pattern.proofs.callers.Told.{refuted, shown}
use Rattle.edits.specs.Ends.{Joins, AreJoined, AreInSheet}
use Rattle.edits.proofs.OneDrawing.{joins_one}
use Rattle.edits.proofs.ends.segment_between.Goals as goal

not_joined : (p q : ExactPoint) (why : SegBad) (r : Result ExactSegment SegBad) → r ≡ Err why → ¬ SamePoint p q
    → (r ≡ Err seg_bad.SamePoint → p ≡ q) → (r ≡ Err seg_bad.NotDirection → (s : ExactSegment) → HasEnds s p q → ¬ IsSegment s) → ¬ AreJoined p q
not_joined p q seg_bad.SamePoint r is n same none j = n (subst (λ (x : ExactPoint). SamePoint p x) (same is) (same_itself p))
not_joined p q seg_bad.NotDirection r is n same none j = none is j.0 j.1.1 j.1.0

pub returns-then-not-are_in_sheet-clause-is : goal.returns-then-not-are_in_sheet-clause-is
returns-then-not-are_in_sheet-clause-is c = inl (refuted c.are_in_sheet.result c.if-not-are_in_sheet.true c.are_in_sheet.ensures, refl)

in_sheet : (sheet : ExactSheet) (p q : ExactPoint) (b : Bool) → b ≡ true → IsTrue b ↔ AreInSheet sheet p q → ¬ ¬ AreInSheet sheet p q
in_sheet sheet p q b e h n = n (shown b e h)

pub returns-then-is_same_point-clause-is : goal.returns-then-is_same_point-clause-is
returns-then-is_same_point-clause-is c = inr (
  in_sheet c.args.sheet.now c.args.from.now c.args.to.now c.are_in_sheet.result c.if-not-are_in_sheet.false c.are_in_sheet.ensures,
  inl (shown c.is_same_point.result c.if-is_same_point.true c.is_same_point.ensures.same, refl),
)

pub returns-in_default-clause-is : goal.returns-in_default-clause-is
returns-in_default-clause-is c =
    let two = refuted c.is_same_point.result c.if-is_same_point.false c.is_same_point.ensures.same in inr (
      in_sheet c.args.sheet.now c.args.from.now c.args.to.now c.are_in_sheet.result c.if-not-are_in_sheet.false c.are_in_sheet.ensures,
      inr (two, inl (not_joined c.args.from.now c.args.to.now c.in_default.field-0 c.new.result c.in_default.is two c.new.ensures.same_point.0 (λ e. (c.new.ensures.not_direction.0 e).1), refl)),
    )

joined : (p q : ExactPoint) (s : ExactSegment) → Joins s p q → ¬ ¬ AreJoined p q
joined p q s h n = n (s, h)

pub returns-then-seg_on_border-clause-is : goal.returns-then-seg_on_border-clause-is
returns-then-seg_on_border-clause-is c = inr (
  in_sheet c.args.sheet.now c.args.from.now c.args.to.now c.are_in_sheet.result c.if-not-are_in_sheet.false c.are_in_sheet.ensures,
  inr (
    refuted c.is_same_point.result c.if-is_same_point.false c.is_same_point.ensures.same,
    inr (
      joined c.args.from.now c.args.to.now c.in-Ok.seg c.in-Ok.ensures.ok,
      inl ((c.in-Ok.seg, c.in-Ok.ensures.ok, shown c.seg_on_border.result c.if-seg_on_border.true c.seg_on_border.ensures), refl),
    ),
  ),
)

off_border : (sheet : ExactSheet) (p q : ExactPoint) (s : ExactSegment) → Joins s p q → ¬ OnBorder sheet s → ¬ ((t : ExactSegment) × Joins t p q × OnBorder sheet t)
off_border sheet p q s h n x = n (subst (OnBorder sheet) (joins_one p q x.0 s x.1 h) x.2)

pub returns-clause-is : goal.returns-clause-is
returns-clause-is c = inr (
  in_sheet c.args.sheet.now c.args.from.now c.args.to.now c.are_in_sheet.result c.if-not-are_in_sheet.false c.are_in_sheet.ensures,
  inr (
    refuted c.is_same_point.result c.if-is_same_point.false c.is_same_point.ensures.same,
    inr (
      joined c.args.from.now c.args.to.now c.in-Ok.seg c.in-Ok.ensures.ok,
      inr (
        off_border c.args.sheet.now c.args.from.now c.args.to.now c.in-Ok.seg c.in-Ok.ensures.ok (refuted c.seg_on_border.result c.if-seg_on_border.false c.seg_on_border.ensures),
        c.in-Ok.ensures.ok,
      ),
    ),
  ),
)

ends_in : (sheet : ExactSheet) (p q : ExactPoint) (s : ExactSegment) → HasEnds s p q → AreInSheet sheet p q → InSheet sheet s.p × InSheet sheet s.q
ends_in sheet p q s (inl e) h = (subst (InSheet sheet) (sym e.0) h.0, subst (InSheet sheet) (sym e.1) h.1)
ends_in sheet p q s (inr e) h = (subst (InSheet sheet) (sym e.0) h.1, subst (InSheet sheet) (sym e.1) h.0)

pub returns-clause-key : goal.returns-clause-key
returns-clause-key c =
    let inside = ends_in c.args.sheet.now c.args.from.now c.args.to.now c.in-Ok.seg c.in-Ok.ensures.ok.1 (shown c.are_in_sheet.result c.if-not-are_in_sheet.false c.are_in_sheet.ensures) in record {
      segment = c.in-Ok.ensures.ok.0;
      from = c.in-Ok.ensures.held.from;
      to = c.in-Ok.ensures.held.to;
      from_in = inside.0;
      to_in = inside.1;
      inner = refuted c.seg_on_border.result c.if-seg_on_border.false c.seg_on_border.ensures;
    }

use Rattle.std.proofs.Common.{◌≡◌, subst, refl, sym}
use Rattle.exact.specs.Plane.{ExactSegment, IsSegment}
use Rattle.sheet.specs.Sheet.{ExactSheet, InSheet, OnBorder}
use Rattle.pattern.specs.NativeEnds.{ends_of}
use Rattle.pattern.proofs.callers.Told.{refuted, shown}
use Rattle.pattern.proofs.native.place.placed.Goals as goal

-- both ends are in the pattern's sheet
both_in : (sheet other : ExactSheet) (s : ExactSegment) → other ≡ sheet → InSheet sheet s.p × InSheet sheet s.q → InSheet other s.p × InSheet other s.q
both_in sheet other s e h = subst (λ (x : ExactSheet). InSheet x s.p × InSheet x s.q) (sym e) h

pub returns-then-not-are_in_sheet : goal.returns-then-not-are_in_sheet
returns-then-not-are_in_sheet c = λ good s l h. (
  h,
  λ k. refuted c.are_in_sheet.result c.if-not-are_in_sheet.true c.are_in_sheet.ensures (both_in good.sheet c.args.sheet.now (ends_of c.args.line.now) (sym s) k),
  λ e. cc,
)

pub returns-then-not-is_in_order : goal.returns-then-not-is_in_order
returns-then-not-is_in_order c = λ good s l h. (
  (h, both_in c.args.sheet.now good.sheet (ends_of c.args.line.now) s (shown c.are_in_sheet.result c.if-not-are_in_sheet.false c.are_in_sheet.ensures)),
  refuted c.is_in_order.result c.if-not-is_in_order.true (c.is_in_order.ensures good.creases l),
  λ e. cc,
)

pub returns-in_default : goal.returns-in_default
returns-in_default c = λ good s l h. (
    let order = shown c.is_in_order.result c.if-not-is_in_order.false (c.is_in_order.ensures good.creases l) in
    ((h, both_in c.args.sheet.now good.sheet (ends_of c.args.line.now) s (shown c.are_in_sheet.result c.if-not-are_in_sheet.false c.are_in_sheet.ensures), order), c.in_default.ensures.none refl order.0, λ e. cc)
    )

pub returns-then-seg_on_border : goal.returns-then-seg_on_border
returns-then-seg_on_border c = λ good s l h. (
    let order = shown c.is_in_order.result c.if-not-is_in_order.false (c.is_in_order.ensures good.creases l) in
    let same = c.in-Some.ensures.some order.0 in (
      (h, both_in c.args.sheet.now good.sheet (ends_of c.args.line.now) s (shown c.are_in_sheet.result c.if-not-are_in_sheet.false c.are_in_sheet.ensures), order, subst IsSegment same c.in-Some.ensures.segment.0),
      λ n. n (subst (λ (x : ExactSheet). OnBorder x (ends_of c.args.line.now)) (sym s) (subst (OnBorder c.args.sheet.now) same (shown c.seg_on_border.result c.if-seg_on_border.true c.seg_on_border.ensures))),
      λ e. cc,
    )
    )

pub returns : goal.returns
returns c = λ good s l h. (
    let order = shown c.is_in_order.result c.if-not-is_in_order.false (c.is_in_order.ensures good.creases l) in
    let same = c.in-Some.ensures.some order.0 in (
      same,
      (
        h,
        both_in c.args.sheet.now good.sheet (ends_of c.args.line.now) s (shown c.are_in_sheet.result c.if-not-are_in_sheet.false c.are_in_sheet.ensures),
        order,
        subst IsSegment same c.in-Some.ensures.segment.0,
        λ b. refuted c.seg_on_border.result c.if-seg_on_border.false c.seg_on_border.ensures (subst (OnBorder c.args.sheet.now) (sym same) (subst (λ (x : ExactSheet). OnBorder x (ends_of c.args.line.now)) s b)),
      ),
      c.in-Some.ensures.segment.1,
    )
    )

use Rattle.std.proofs.Common.{◌≡◌, Bool, true, false, IsTrue, refl, subst, sym, inl, inr}
use Rattle.std.specs.Prelude.{◌↔◌, Ok, Err}
use Rattle.exact.specs.Plane.{ExactPoint, ExactSegment, IsPointCanonical}
use Rattle.sheet.specs.Sheet.{ExactSheet}
use Rattle.sheet.specs.Pattern.{ExactCrease, IsKey}
use Rattle.pattern.proofs.callers.Told.{refuted, shown}
use Rattle.edits.specs.Ends.{AreInSheet}
use Rattle.edits.specs.Lines.{LineOf}
use Rattle.edits.specs.declared.refusal.EditBad.TheVariants as bad
use Rattle.edits.proofs.lines.test_line.Goals as goal

-- what was tested of a segment whose ends are p and q
record AreEnds (sheet : ExactSheet) (s : ExactSegment) (p q : ExactPoint) (inside : Bool) : Type 0 where
  pub from : p ≡ s.p
  pub to : q ≡ s.q
  pub told : IsTrue inside ↔ AreInSheet sheet p q

is_outside : (sheet : ExactSheet) (s : ExactSegment) (p q : ExactPoint) (inside : Bool) → AreEnds sheet s p q inside → inside ≡ false → ¬ AreInSheet sheet s.p s.q
is_outside sheet s p q inside h e = λ k. refuted inside e h.told (subst (λ (x : ExactPoint). AreInSheet sheet x q) (sym h.from) (subst (λ (y : ExactPoint). AreInSheet sheet s.p y) (sym h.to) k))

is_in : (sheet : ExactSheet) (s : ExactSegment) (p q : ExactPoint) (inside : Bool) → AreEnds sheet s p q inside → inside ≡ true → AreInSheet sheet s.p s.q
is_in sheet s p q inside h e = subst (λ (x : ExactPoint). AreInSheet sheet x s.q) h.from (subst (λ (y : ExactPoint). AreInSheet sheet p y) h.to (shown inside e h.told))

pub returns-then-not-are_in_sheet-clause-err : goal.returns-then-not-are_in_sheet-clause-err
returns-then-not-are_in_sheet-clause-err c = subst (λ (f : ExactCrease). LineOf c.args.sheet.now f (Err bad.Outside)) c.crease.view_is
    (inl (is_outside c.args.sheet.now c.crease.inside.seg c.p.result c.q.result c.are_in_sheet.result (record { from = c.p.ensures.value; to = c.q.ensures.value; told = c.are_in_sheet.ensures }) c.if-not-are_in_sheet.true, refl))

pub returns-then-seg_on_border-clause-err : goal.returns-then-seg_on_border-clause-err
returns-then-seg_on_border-clause-err c = subst (λ (f : ExactCrease). LineOf c.args.sheet.now f (Err bad.OnBorder)) c.crease.view_is (inr (
  λ n. n (is_in c.args.sheet.now c.crease.inside.seg c.p.result c.q.result c.are_in_sheet.result (record { from = c.p.ensures.value; to = c.q.ensures.value; told = c.are_in_sheet.ensures }) c.if-not-are_in_sheet.false),
  inl (shown c.seg_on_border.result c.if-seg_on_border.true c.seg_on_border.ensures, refl),
))

pub returns-clause-ok : goal.returns-clause-ok
returns-clause-ok c = subst (λ (f : ExactCrease). LineOf c.args.sheet.now f (Ok f)) c.crease.view_is (inr (
  λ n. n (is_in c.args.sheet.now c.crease.inside.seg c.p.result c.q.result c.are_in_sheet.result (record { from = c.p.ensures.value; to = c.q.ensures.value; told = c.are_in_sheet.ensures }) c.if-not-are_in_sheet.false),
  inr (refuted c.seg_on_border.result c.if-seg_on_border.false c.seg_on_border.ensures, refl),
))

pub returns-clause-key : goal.returns-clause-key
returns-clause-key c =
    let inside = is_in c.args.sheet.now c.crease.inside.seg c.p.result c.q.result c.are_in_sheet.result (record { from = c.p.ensures.value; to = c.q.ensures.value; told = c.are_in_sheet.ensures }) c.if-not-are_in_sheet.false in
    let key : IsKey c.args.sheet.now c.crease.inside.seg = record {
      segment = c.p.ensures.segment;
      from = subst IsPointCanonical c.p.ensures.value c.p.ensures.canonical;
      to = subst IsPointCanonical c.q.ensures.value c.q.ensures.canonical;
      from_in = inside.0;
      to_in = inside.1;
      inner = refuted c.seg_on_border.result c.if-seg_on_border.false c.seg_on_border.ensures;
    } in subst (λ (f : ExactCrease). IsKey c.args.sheet.now f.seg) c.crease.view_is key

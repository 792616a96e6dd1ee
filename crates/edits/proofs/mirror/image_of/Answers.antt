use Rattle.std.proofs.Common.{◌≡◌, Bool, true, false, IsTrue, refl, subst, sym, inl, inr, ℕ, ◌<◌}
use Rattle.std.specs.Prelude.{◌↔◌, Ok, Err}
use Rattle.exact.specs.Plane.{ExactPoint, ExactSegment, IsPointCanonical}
use Rattle.sheet.specs.Sheet.{ExactSheet, IsSheet, InSheet, OnBorder}
use Rattle.sheet.specs.Pattern.{ExactCrease, IsKey}
use Rattle.sheet.specs.declared.colour.Colour.{Colour}
use Rattle.plane.specs.Segments.{HasCanonicalEnds}
use Rattle.pattern.proofs.callers.Told.{refuted, shown}
use Rattle.edits.specs.CreaseSet.{crease}
use Rattle.edits.specs.Ends.{AreInSheet}
use Rattle.edits.specs.Mirror.{IsSegmentImage, ImageOf}
use Rattle.edits.specs.declared.refusal.EditBad.TheVariants as bad
use Rattle.edits.proofs.mirrors.CreaseImages.{none_out, none_outside, one_outside, none_on_side}
use Rattle.edits.proofs.mirror.image_of.Goals as goal

-- what is told of the image u of a crease on s, by its ends
record IsTold (sheet : ExactSheet) (k : ℕ) (a : ExactPoint) (s u : ExactSegment) (p q : ExactPoint) (inside : Bool) : Type 0 where
  small : k < 16
  image : IsSegmentImage a k s u
  from : p ≡ u.p
  to : q ≡ u.q
  first : IsPointCanonical p
  last : IsPointCanonical q
  told : IsTrue inside ↔ AreInSheet sheet p q

canonical : (sheet : ExactSheet) (k : ℕ) (a : ExactPoint) (s u : ExactSegment) (p q : ExactPoint) (inside : Bool) → IsTold sheet k a s u p q inside → HasCanonicalEnds u
canonical sheet k a s u p q inside t = (subst IsPointCanonical t.from t.first, subst IsPointCanonical t.to t.last)

is_in : (sheet : ExactSheet) (k : ℕ) (a : ExactPoint) (s u : ExactSegment) (p q : ExactPoint) (inside : Bool) → IsTold sheet k a s u p q inside → inside ≡ true → AreInSheet sheet u.p u.q
is_in sheet k a s u p q inside t e = (let h = shown inside e t.told in (subst (InSheet sheet) t.from h.0, subst (InSheet sheet) t.to h.1))

is_out : (sheet : ExactSheet) (k : ℕ) (a : ExactPoint) (s u : ExactSegment) (p q : ExactPoint) (inside : Bool) → IsTold sheet k a s u p q inside → inside ≡ false → ¬ AreInSheet sheet u.p u.q
is_out sheet k a s u p q inside t e h = refuted inside e t.told (subst (InSheet sheet) (sym t.from) h.0, subst (InSheet sheet) (sym t.to) h.1)

-- the answers for a crease on s
outside : (sheet : ExactSheet) (k : ℕ) (a : ExactPoint) (s u : ExactSegment) (p q : ExactPoint) (inside : Bool) (c : Colour) → IsTold sheet k a s u p q inside → inside ≡ false → ImageOf sheet a k (crease s c) (Err bad.Outside)
outside sheet k a s u p q inside c t e = inr (
  none_out k a s u t.small t.image (canonical sheet k a s u p q inside t),
  inl (one_outside sheet k a s u t.image (is_out sheet k a s u p q inside t e), refl),
)

on_side : (sheet : ExactSheet) (k : ℕ) (a : ExactPoint) (s u : ExactSegment) (p q : ExactPoint) (inside : Bool) (c : Colour) → IsTold sheet k a s u p q inside → inside ≡ true → OnBorder sheet u → ImageOf sheet a k (crease s c) (Err bad.OnBorder)
on_side sheet k a s u p q inside c t e b = inr (
  none_out k a s u t.small t.image (canonical sheet k a s u p q inside t),
  inr (none_outside sheet k a s u t.small t.image (is_in sheet k a s u p q inside t e), inl ((u, t.image, b), refl)),
)

imaged : (sheet : ExactSheet) → IsSheet sheet → (k : ℕ) (a : ExactPoint) (s u : ExactSegment) (p q : ExactPoint) (inside : Bool) (c : Colour) → IsTold sheet k a s u p q inside → inside ≡ true → ¬ OnBorder sheet u → ImageOf sheet a k (crease s c) (Ok (crease u c))
imaged sheet good k a s u p q inside c t e n = inr (
  none_out k a s u t.small t.image (canonical sheet k a s u p q inside t),
  inr (
    none_outside sheet k a s u t.small t.image (is_in sheet k a s u p q inside t e),
    inr (none_on_side sheet good k a s u t.small t.image n, record { image = t.image; canonical = canonical sheet k a s u p q inside t; colour = refl }),
  ),
)

key : (sheet : ExactSheet) → IsSheet sheet → (k : ℕ) (a : ExactPoint) (s u : ExactSegment) (p q : ExactPoint) (inside : Bool) → IsTold sheet k a s u p q inside → inside ≡ true → ¬ OnBorder sheet u → IsKey sheet u
key sheet good k a s u p q inside t e n = (let h = is_in sheet k a s u p q inside t e in record { segment = t.image.0; from = (canonical sheet k a s u p q inside t).0; to = (canonical sheet k a s u p q inside t).1; from_in = h.0; to_in = h.1; inner = n })

pub returns-then-not-are_in_sheet-clause-is : goal.returns-then-not-are_in_sheet-clause-is
returns-then-not-are_in_sheet-clause-is c = subst (λ (f : ExactCrease). ImageOf c.args.sheet.now c.args.at.now c.args.dir f (Err bad.Outside)) c.crease.view_is
    (outside c.args.sheet.now c.args.dir c.args.at.now c.crease.inside.seg c.in-Some.seg c.p.result c.q.result c.are_in_sheet.result c.crease.inside.colour
    (record { small = c.segment_image.ensures.small; image = c.in-Some.ensures.some; from = c.p.ensures.value; to = c.q.ensures.value; first = c.p.ensures.canonical; last = c.q.ensures.canonical; told = c.are_in_sheet.ensures }) c.if-not-are_in_sheet.true)

pub returns-then-seg_on_border-clause-is : goal.returns-then-seg_on_border-clause-is
returns-then-seg_on_border-clause-is c = subst (λ (f : ExactCrease). ImageOf c.args.sheet.now c.args.at.now c.args.dir f (Err bad.OnBorder)) c.crease.view_is
    (on_side c.args.sheet.now c.args.dir c.args.at.now c.crease.inside.seg c.in-Some.seg c.p.result c.q.result c.are_in_sheet.result c.crease.inside.colour
    (record { small = c.segment_image.ensures.small; image = c.in-Some.ensures.some; from = c.p.ensures.value; to = c.q.ensures.value; first = c.p.ensures.canonical; last = c.q.ensures.canonical; told = c.are_in_sheet.ensures }) c.if-not-are_in_sheet.false
    (shown c.seg_on_border.result c.if-seg_on_border.true c.seg_on_border.ensures))

pub returns-clause-is : goal.returns-clause-is
returns-clause-is c = subst (λ (f : ExactCrease). ImageOf c.args.sheet.now c.args.at.now c.args.dir f (Ok (crease c.in-Some.seg c.crease.inside.colour))) c.crease.view_is
    (imaged c.args.sheet.now c.w-width.ensures.sheet c.args.dir c.args.at.now c.crease.inside.seg c.in-Some.seg c.p.result c.q.result c.are_in_sheet.result c.crease.inside.colour
    (record { small = c.segment_image.ensures.small; image = c.in-Some.ensures.some; from = c.p.ensures.value; to = c.q.ensures.value; first = c.p.ensures.canonical; last = c.q.ensures.canonical; told = c.are_in_sheet.ensures }) c.if-not-are_in_sheet.false
    (refuted c.seg_on_border.result c.if-seg_on_border.false c.seg_on_border.ensures))

pub returns-clause-key : goal.returns-clause-key
returns-clause-key c = key c.args.sheet.now c.w-width.ensures.sheet c.args.dir c.args.at.now c.crease.inside.seg c.in-Some.seg c.p.result c.q.result c.are_in_sheet.result
    (record { small = c.segment_image.ensures.small; image = c.in-Some.ensures.some; from = c.p.ensures.value; to = c.q.ensures.value; first = c.p.ensures.canonical; last = c.q.ensures.canonical; told = c.are_in_sheet.ensures }) c.if-not-are_in_sheet.false
    (refuted c.seg_on_border.result c.if-seg_on_border.false c.seg_on_border.ensures)

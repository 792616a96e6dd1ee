use Rattle.std.proofs.Common.{◌≡◌, ◌≢◌, Bool, true, false, sym, subst, ap, ◌∙◌, rules}
use Rattle.exact.specs.Plane.{ExactPoint, ExactSegment}
use Rattle.sheet.specs.Pattern.{ExactCrease}
use Rattle.sheet.specs.declared.colour.Colour.{Colour}
use Rattle.sheet.specs.contracts.Colour.{the_type}
use Rattle.geometry.specs.Meeting.{IsLater, IsEarlier}
use Rattle.creases.proofs.callers.Members.{colour_itself}
use Rattle.edits.specs.Pieces.{IsRecoloured, Replaced}
use denote.Enum.Bare.{sameb, same_true}
use Rattle.edits.proofs.drawings.CutPieces.{Put, if_ok}
use Rattle.edits.proofs.drawings.PaintPieces.{AreShared, kept_replaced, shared_segment, common_may, painted_replaced}
use Rattle.edits.proofs.draft.Draft.paint.Goals as goal

same_colour : (a b c : Colour) (r : Bool) → a ≡ c → r ≡ sameb the_type a b → r ≡ true → c ≡ b
same_colour a b c r v e t = sym v ∙ same_true the_type (search rules) a b (sym e ∙ t)

other_colour : (a b c : Colour) (r : Bool) → a ≡ c → r ≡ sameb the_type a b → r ≡ false → c ≢ b
other_colour a b c r v e f h = (let k = sym f ∙ e ∙ subst (λ x. sameb the_type a x ≡ true) (v ∙ h) (colour_itself a) in cc)

shared : (t : ExactCrease) (s u : ExactSegment) (a b d e lo hi : ExactPoint) → u ≡ t.seg → a ≡ u.p → b ≡ s.p → d ≡ u.q → e ≡ s.q → IsLater a b lo → IsEarlier d e hi → AreShared t.seg s lo hi
shared t s u a b d e lo hi v i j k l from to = record {
  from = subst (λ x. IsLater x s.p lo) (i ∙ ap (λ (w : ExactSegment). w.p) v) (subst (λ y. IsLater a y lo) j from);
  to = subst (λ x. IsEarlier x s.q hi) (k ∙ ap (λ (w : ExactSegment). w.q) v) (subst (λ y. IsEarlier d y hi) l to);
}

pub returns-then-eq-clause-painted : goal.returns-then-eq-clause-painted
returns-then-eq-clause-painted c =
    let t = c.args.crease.now in
    kept_replaced c.args.self.now.creases t c.args.seg.now c.args.colour c.requires (same_colour c.crease.inside.colour c.args.colour t.colour c.eq.result (ap (λ (f : ExactCrease). f.colour) c.crease.view_is) c.eq.ensures c.if-eq.true)

pub part-requires : goal.part-requires
part-requires c =
    let t = c.args.crease.now in
    let s = c.args.seg.now in
    λ _. shared_segment c.args.self.now.creases t s c.later-from.result c.earlier-to.result c.requires
    (shared t s c.crease.inside.seg c.p.result c.p-2.result c.q.result c.q-2.result c.later-from.result c.earlier-to.result (ap (λ (f : ExactCrease). f.seg) c.crease.view_is) c.p.ensures.value c.p-2.ensures.value c.q.ensures.value c.q-2.ensures.value c.later-from.ensures c.earlier-to.ensures)

pub put_part-requires-clause-may : goal.put_part-requires-clause-may
put_part-requires-clause-may c =
    let t = c.args.crease.now in
    let s = c.args.seg.now in
    common_may c.args.self.now.creases c.cut.new.self.creases t s c.later-from.result c.earlier-to.result c.part.result c.requires
    (shared t s c.crease.inside.seg c.p.result c.p-2.result c.q.result c.q-2.result c.later-from.result c.earlier-to.result (ap (λ (f : ExactCrease). f.seg) c.crease.view_is) c.p.ensures.value c.p-2.ensures.value c.q.ensures.value c.q-2.ensures.value c.later-from.ensures c.earlier-to.ensures)
    c.in_ok-cut.ensures.cut c.part.ensures

pub returns-clause-painted : goal.returns-clause-painted
returns-clause-painted c =
    let old = c.args.self.now.creases in
    let t = c.args.crease.now in
    let s = c.args.seg.now in
    let mid = c.cut.new.self.creases in
    let new = c.put_part.new.self.creases in
    if_ok c.put_part.result (Put mid c.part.result c.args.colour new) (Replaced (IsRecoloured s c.args.colour t) old t new)
    (painted_replaced old mid new t s c.later-from.result c.earlier-to.result c.args.colour c.part.result c.requires
    (other_colour c.crease.inside.colour c.args.colour t.colour c.eq.result (ap (λ (f : ExactCrease). f.colour) c.crease.view_is) c.eq.ensures c.if-eq.false)
    (shared t s c.crease.inside.seg c.p.result c.p-2.result c.q.result c.q-2.result c.later-from.result c.earlier-to.result (ap (λ (f : ExactCrease). f.seg) c.crease.view_is) c.p.ensures.value c.p-2.ensures.value c.q.ensures.value c.q-2.ensures.value c.later-from.ensures c.earlier-to.ensures)
    c.part.ensures c.in_ok-cut.ensures.cut) c.put_part.ensures.put

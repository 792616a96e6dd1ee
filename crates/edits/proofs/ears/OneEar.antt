-- A triangle has at most one incentre, which has at most one foot on a side, so there is one rabbit ear.
use Rattle.std.proofs.Common.{◌≡◌, List, [], ◌∷◌, sym, subst, ◌∙◌}
use Rattle.exact.specs.Plane.{ExactPoint}
use Rattle.sheet.specs.Sheet.{ExactSheet}
use Rattle.sheet.specs.Pattern.{ExactCrease}
use Rattle.sheet.specs.declared.mark.Mark.{Mark}
use Rattle.plane.specs.Triangles.{IsFootBetween}
use Rattle.plane.proofs.callers.Orders.{point_unique}
use Rattle.plane.proofs.callers.Triangles.{inside_apart}
use Rattle.plane.proofs.callers.OneIncentre.{incentre_one, foot_one}
use Rattle.edits.specs.CreaseSet.{crease}
use Rattle.edits.specs.Ends.{Joins}
use Rattle.edits.specs.RabbitEar.{IsEar, EarOf, marked, countermarked}
use Rattle.edits.proofs.OneAnswer.{HasOneAnswer, gives_one, unless_one}
use Rattle.edits.proofs.OneDrawing.{joins_one}

pub ear_is_one : (m : Mark) (p q r : ExactPoint) (a b : List ExactCrease) → IsEar m p q r a → IsEar m p q r b → a ≡ b
ear_is_one m p q r a b h l =
    let centre : h.centre ≡ l.centre = point_unique h.centre l.centre h.centre_canonical l.centre_canonical (incentre_one p q r h.centre l.centre h.centre_is l.centre_is) in
    let apart = inside_apart p q r l.centre l.centre_is.inside in
    let foot : h.foot ≡ l.foot = point_unique h.foot l.foot h.foot_canonical l.foot_canonical (foot_one p q l.centre h.foot l.foot apart.pq (subst (λ z. IsFootBetween p q z h.foot) centre h.foot_is) l.foot_is) in
    let s = h.segments in
    let t = l.segments in
    let one = joins_one p l.centre s.0 t.0 (subst (λ z. Joins s.0 p z) centre s.4) t.4 in
    let two = joins_one q l.centre s.1 t.1 (subst (λ z. Joins s.1 q z) centre s.5) t.5 in
    let three = joins_one r l.centre s.2 t.2 (subst (λ z. Joins s.2 r z) centre s.6) t.6 in
    let four = joins_one l.centre l.foot s.3 t.3 (subst (λ z. Joins s.3 l.centre z) foot (subst (λ z. Joins s.3 z h.foot) centre s.7)) t.7 in
    s.8 ∙ (λ i. crease (one i) (marked m) ∷ crease (two i) (marked m) ∷ crease (three i) (marked m) ∷ crease (four i) (countermarked m) ∷ []) ∙ sym t.8

pub ear_one : (sheet : ExactSheet) (m : Mark) (p q r : ExactPoint) → HasOneAnswer (EarOf sheet m p q r)
ear_one sheet m p q r = unless_one _ _ _ (unless_one _ _ _ (unless_one _ _ _ (unless_one _ _ _ (unless_one _ _ _ (unless_one _ _ _ (gives_one (IsEar m p q r) (ear_is_one m p q r)))))))

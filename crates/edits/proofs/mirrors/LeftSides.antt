-- A segment has no point on the right of a line where its ends are not there.
use Rattle.std.specs.Prelude.{◌↔◌}
use Rattle.std.proofs.Common.{◌≡◌, ℕ, Bool, IsTrue, subst, ◌⊎◌, inl, inr}
use Rattle.exact.specs.Plane.{ExactPoint, ExactSegment, IsSegment, vector}
use Rattle.qroot2.specs.declared.sign.Sign.{Sign}
use Rattle.qroot2.specs.declared.sign.Sign.TheVariants as sign
use Rattle.geometry.specs.Root.{minus, Above}
use Rattle.geometry.specs.Gap.{cross}
use Rattle.geometry.specs.Meeting.{Along}
use Rattle.geometry.proofs.Lines.{On}
use Rattle.geometry.proofs.Segments.{end_p, end_q}
use Rattle.geometry.proofs.Found.{along_of, turn_on}
use Rattle.geometry.proofs.AtLeast.{AtLeast, not_below, not_above_zero}
use Rattle.geometry.proofs.LeftBetween.{left_between, on_between}
use Rattle.plane.specs.Sides.{IsSide}
use Rattle.plane.proofs.callers.Turns.{side_cross}
use Rattle.edits.specs.Lefts.{AreLeft}
use Rattle.edits.specs.Mirror.{IsConcerned}

below_of : (k : ℕ) (at r : ExactPoint) → IsSide at k r sign.Minus → Above (minus (cross (vector k) at r))
unfolding minus
below_of k at r h = side_cross k at r sign.Minus h

above_of : (k : ℕ) (at r : ExactPoint) → IsSide at k r sign.Plus → Above (cross (vector k) at r)
above_of k at r h = side_cross k at r sign.Plus h

on_of : (k : ℕ) (at r : ExactPoint) → IsSide at k r sign.Zero → On (vector k) at r
on_of k at r h = (turn_on k at r).0 h

-- neither end is on the right, and one is on the left
are_concerned : (k m : ℕ) (at : ExactPoint) (s : ExactSegment) → Along s m → AtLeast (cross (vector k) at s.p) → AtLeast (cross (vector k) at s.q) → Above (cross (vector k) at s.p) ⊎ Above (cross (vector k) at s.q) → IsConcerned at k s
are_concerned k m at s a f g one = record {
  left = λ r h x. not_below _ (left_between k m at r s a h f g) (below_of k at r x);
  off = λ h. elim one [
    | inl x ↦ not_above_zero _ (on_of k at s.p (h s.p (end_p s m a))).on x
    | inr x ↦ not_above_zero _ (on_of k at s.q (h s.q (end_q s m a))).on x
  ];
}

sides_told : (k m : ℕ) (at : ExactPoint) (s : ExactSegment) (x y : Sign) → Along s m → IsSide at k s.p x → IsSide at k s.q y → AreLeft x y ↔ IsConcerned at k s
sides_told k m at s sign.Minus y a h l = (λ u. absurd u, λ c. c.left s.p (end_p s m a) h)
sides_told k m at s sign.Zero sign.Minus a h l = (λ u. absurd u, λ c. c.left s.q (end_q s m a) l)
sides_told k m at s sign.Zero sign.Zero a h l = (λ u. absurd u, λ c. c.off (λ r o. (turn_on k at r).1 (on_between k m at r s a o (on_of k at s.p h) (on_of k at s.q l))))
sides_told k m at s sign.Zero sign.Plus a h l = (λ u. are_concerned k m at s a (inr (on_of k at s.p h).on) (inl (above_of k at s.q l)) (inr (above_of k at s.q l)), λ c. tt)
sides_told k m at s sign.Plus sign.Minus a h l = (λ u. absurd u, λ c. c.left s.q (end_q s m a) l)
sides_told k m at s sign.Plus sign.Zero a h l = (λ u. are_concerned k m at s a (inl (above_of k at s.p h)) (inr (on_of k at s.q l).on) (inl (above_of k at s.p h)), λ c. tt)
sides_told k m at s sign.Plus sign.Plus a h l = (λ u. are_concerned k m at s a (inl (above_of k at s.p h)) (inl (above_of k at s.q l)) (inl (above_of k at s.p h)), λ c. tt)

-- from the sides of both ends
pub concerned_told : (k : ℕ) (at p q : ExactPoint) (s : ExactSegment) (x y : Sign) (b : Bool) → IsSegment s → p ≡ s.p → q ≡ s.q → IsSide at k p x → IsSide at k q y → IsTrue b ↔ AreLeft x y → IsTrue b ↔ IsConcerned at k s
concerned_told k at p q s x y b h e f u v t =
    let a = along_of s h in
    let told = sides_told k a.0 at s x y a.1 (subst (λ (z : ExactPoint). IsSide at k z x) e u) (subst (λ (z : ExactPoint). IsSide at k z y) f v) in
    (λ i. told.0 (t.0 i), λ c. t.1 (told.1 c))
